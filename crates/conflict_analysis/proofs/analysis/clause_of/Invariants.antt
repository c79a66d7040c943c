use Rattle.std.proofs.Common.{length}
use Rattle.conflict_analysis.specs.Learning.{IsClauseAbove}
use Rattle.conflict_analysis.proofs.analysis.clause_of.Given as goal

abbrev pub invariant-loop-next : goal.invariant-loop-next
invariant-loop-next l = IsClauseAbove l.store.trail.steps l.place l.fn.lower l.places l.clause.items

abbrev pub decreases-loop-next : goal.decreases-loop-next
decreases-loop-next l = length l.places
