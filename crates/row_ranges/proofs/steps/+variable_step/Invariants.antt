use Rattle.std.proofs.Common.{length}
use Rattle.row_ranges.proofs.steps.+variable_step.Given as goal

abbrev pub decreases-variable_step : goal.decreases-variable_step
decreases-variable_step l = length l.types.now
