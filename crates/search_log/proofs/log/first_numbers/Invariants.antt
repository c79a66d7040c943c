use Rattle.std.proofs.Common.{◌≡◌, ℕ, ◌+◌, ◌<◌, length, get_or}
use Rattle.search_log.proofs.log.first_numbers.Given as goal

-- the numbers so far
abbrev pub invariant-loop-place : goal.invariant-loop-place
invariant-loop-place l = record {
  size : length l.list.items ≡ l.place;
  each : (id : ℕ) → id < l.place → get_or l.list.items id 0 ≡ id + 1;
}
