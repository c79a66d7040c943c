use Rattle.std.proofs.Common.{length}
use Rattle.row_ranges.proofs.arguments.+constant_key.Given as goal

abbrev pub decreases-constant_key : goal.decreases-constant_key
decreases-constant_key l = length l.types.now
