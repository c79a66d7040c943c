use Rattle.std.proofs.Common.{◌≡◌, ℕ, ◌≤◌, ◌<◌, false, Some, None, get_or, length}
use Rattle.search_engine.proofs.searching.values_of.Given as goal

-- the values so far
abbrev pub invariant-loop-number : goal.invariant-loop-number
invariant-loop-number l = record {
  size : length l.values.items ≡ l.number;
  same : (k : ℕ) → 1 ≤ k → k < l.number → get_or l.assignment k None ≡ Some (get_or l.values.items k false);
}
