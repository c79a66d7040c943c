use Rattle.std.proofs.Common.{All}
use Rattle.search_engine.specs.LitSets.{IsSetOf}
use Rattle.clause_learning.specs.LiveBounds.{IsOutputOfWider}
use Rattle.clause_learning.proofs.live_bounds.outputs_of_wider.Given as goal

-- the outputs so far
abbrev pub invariant-loop-bound : goal.invariant-loop-bound
invariant-loop-bound l = IsSetOf l.fn.assume l.assumed × All (IsOutputOfWider l.fn.live l.fn.assume) l.more.items
