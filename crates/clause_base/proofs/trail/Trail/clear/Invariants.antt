use Rattle.std.proofs.Common.{length}
use Rattle.clause_base.specs.TrailFields.{IsBeingCleared}
use Rattle.clause_base.proofs.trail.Trail.clear.Given as goal

abbrev pub invariant-loop-step : goal.invariant-loop-step
invariant-loop-step l = IsBeingCleared l.fn.self l.self-inside

abbrev pub decreases-loop-step : goal.decreases-loop-step
decreases-loop-step l = length l.self-inside.steps.items
