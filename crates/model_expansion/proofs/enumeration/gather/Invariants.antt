use Rattle.model_expansion.proofs.EnumerationFacts.{IsSoFar}
use Rattle.model_expansion.proofs.enumeration.gather.Given as goal

abbrev pub invariant-loop-number : goal.invariant-loop-number
invariant-loop-number g l =
    IsSoFar l.fn.assumed.items l.fn.n l._number (g.S.Solve.state l.fn.s) (g.S.Solve.state l.s) l.fn.budget l.budget
    l.assumed.items l.found.items × g.S.Solve.goes_on l.fn.s l.s
