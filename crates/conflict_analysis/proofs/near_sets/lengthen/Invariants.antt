use Rattle.std.proofs.Common.{◌≡◌, ◌≤◌, ◌+◌, ◌-◌, ℕ, length, slice_index}
use Rattle.conflict_analysis.proofs.near_sets.lengthen.Given as goal

abbrev pub invariant-loop-marks : goal.invariant-loop-marks
invariant-loop-marks l = record {
  same : (k : ℕ) → slice_index l.marks.items k ≡ slice_index l.fn.marks.items k;
  longer : length l.fn.marks.items ≤ length l.marks.items;
}

abbrev pub decreases-loop-marks : goal.decreases-loop-marks
decreases-loop-marks l = l.place + 1 - length l.marks.items
