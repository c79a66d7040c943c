use Rattle.std.proofs.Common.{length}
use Rattle.row_ranges.proofs.steps.+reach.Given as goal

abbrev pub decreases-reach : goal.decreases-reach
decreases-reach l = length l.bounds.now
