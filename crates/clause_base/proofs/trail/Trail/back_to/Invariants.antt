use Rattle.std.proofs.Common.{length}
use Rattle.clause_base.specs.TrailFields.{IsBeingCut}
use Rattle.clause_base.proofs.trail.Trail.back_to.Given as goal

abbrev pub invariant-loop : goal.invariant-loop
invariant-loop l = IsBeingCut l.fn.self l.level l.self-inside

abbrev pub decreases-loop : goal.decreases-loop
decreases-loop l = length l.self-inside.steps.items
