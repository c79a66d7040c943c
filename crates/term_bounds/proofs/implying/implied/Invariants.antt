use Rattle.std.proofs.Common.{◌≤◌, length}
use Rattle.term_bounds.proofs.implying.implied.Given as goal

-- the place is one of the bounds'
abbrev pub invariant-loop-left : goal.invariant-loop-left
invariant-loop-left l = l.left ≤ length l.fn.bounds

abbrev pub decreases-loop-left : goal.decreases-loop-left
decreases-loop-left l = l.left
