use Rattle.std.proofs.Common.{◌≡◌, ◌-◌, length}
use Rattle.support_explainer.proofs.DeletionFacts.{IsSoFar}
use Rattle.support_explainer.proofs.deletion.irreducible.Given as goal

abbrev pub invariant-loop-at : goal.invariant-loop-at
invariant-loop-at g l =
    IsSoFar l.fn.first l.fn.last l.items l.at (g.S.Solve.state l.fn.s) (g.S.Solve.state l.s) l.fn.budget l.budget
    × g.S.Solve.goes_on l.fn.s l.s × (l.last ≡ l.fn.last)

abbrev pub decreases-loop-at : goal.decreases-loop-at
decreases-loop-at g l = length l.items - l.at
