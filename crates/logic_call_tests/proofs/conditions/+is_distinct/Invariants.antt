use Rattle.std.proofs.Common.{length}
use Rattle.logic_call_tests.proofs.conditions.+is_distinct.Given as goal

abbrev pub decreases-is_distinct : goal.decreases-is_distinct
decreases-is_distinct l = length l.domain.now
