use Rattle.std.proofs.Common.{length, ◌≤◌}
use Rattle.clause_base.specs.ClauseDbFields.{AreRemoved}
use Rattle.clause_base.proofs.clause_db.live_of.Given as goal

abbrev pub invariant-loop-at : goal.invariant-loop-at
invariant-loop-at l = (l.at ≤ length l.entries) × AreRemoved l.entries l.at

abbrev pub decreases-loop-at : goal.decreases-loop-at
decreases-loop-at l = l.at
