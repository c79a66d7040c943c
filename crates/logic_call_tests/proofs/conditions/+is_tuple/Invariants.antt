use Rattle.std.proofs.Common.{length}
use Rattle.logic_call_tests.proofs.conditions.+is_tuple.Given as goal

abbrev pub decreases-is_tuple : goal.decreases-is_tuple
decreases-is_tuple l = length l.types.now
