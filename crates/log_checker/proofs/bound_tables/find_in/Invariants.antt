use Rattle.std.proofs.Common.{ℕ, ◌-◌, ◌<◌, ◌≤◌, length, get_or}
use Rattle.ground_core.specs.declared.parts.TermBound.{TermBound}
use Rattle.log_checker.proofs.bound_tables.find_in.Given as goal

abbrev pub invariant-loop-low : goal.invariant-loop-low
invariant-loop-low l = (l.low ≤ l.high) × (l.high ≤ length l.fn.list)
    × ((i : ℕ) (d : TermBound) → i < l.low → (get_or l.fn.list i d).out.var.0 < l.fn.var)
    × ((i : ℕ) (d : TermBound) → l.high ≤ i → i < length l.fn.list → l.fn.var < (get_or l.fn.list i d).out.var.0)

abbrev pub decreases-loop-low : goal.decreases-loop-low
decreases-loop-low l = l.high - l.low
