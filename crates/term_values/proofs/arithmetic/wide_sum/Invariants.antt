use Rattle.std.proofs.Common.{◌≡◌, ◌≤ℤ◌, ◌+ℤ◌, ◌*◌, ◌^◌, pos, neg_ℤ, map, drop, option_map}
use Rattle.term_values.specs.RowSums.{sum_values, signs_of}
use Rattle.term_values.specs.RowValues.{row_value}
use Rattle.term_values.proofs.arithmetic.wide_sum.Given as goal

abbrev pub invariant-loop-i : goal.invariant-loop-i
invariant-loop-i l = record {
  same : option_map (λ z. l.total +ℤ z) (sum_values (drop l.i (signs_of l.parts)) (drop l.i (map row_value l.values)))
      ≡ sum_values (signs_of l.parts) (map row_value l.values);
  low : neg_ℤ (pos (2 ^ 63 * l.i)) ≤ℤ l.total;
  high : l.total ≤ℤ pos (2 ^ 63 * l.i);
}
