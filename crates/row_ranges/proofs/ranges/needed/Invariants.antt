use Rattle.std.proofs.Common.{◌≡◌, ℕ, ◌≤◌, ◌<◌, get_or}
use Rattle.row_ranges.proofs.ranges.needed.Given as goal

-- so far each variable after so many has no step
abbrev pub invariant-loop-n : goal.invariant-loop-n
invariant-loop-n l = (i : ℕ) → l.count ≤ i → i < l.n → get_or l.steps i 0 ≡ 0
