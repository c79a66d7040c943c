use Rattle.std.proofs.Common.{refl}
use Rattle.stage_definitions.proofs.laws.aggregates_worked_out.Goals as goal

pub returns : goal.returns
returns c = record {
  a_count = refl;
  count_and_one = refl;
  one_and_count = refl;
  two_counts = refl;
  side_in_brackets = refl;
  sum_in_sum = refl;
  count_in_brackets = refl;
  with_minus = refl;
  minus_sum = refl;
  times_count = refl;
  count_times = refl;
  times_product = refl;
  times_sum = refl;
  times_times = refl;
  count_times_count = refl;
  value_times_count = refl;
  a_least = refl;
  least_in_brackets = refl;
  minus_least = refl;
  times_least = refl;
  least_and_one = refl;
  least_and_count = refl;
  count_and_least = refl;
  two_least = refl;
  least_and_value = refl;
  counts_on_both = refl;
  in_weight = refl;
  in_argument = refl;
  in_condition = refl;
  block_count = refl;
  block_least = refl;
  block_minus_least = refl;
  head_value = refl;
  head_argument = refl;
  two_of = refl;
}
