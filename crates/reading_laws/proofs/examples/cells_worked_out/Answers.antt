use Rattle.std.proofs.Common.{refl}
use Rattle.reading_laws.proofs.examples.cells_worked_out.Goals as goal

pub returns : goal.returns
returns c = record {
  counted = refl;
  listed_once = refl;
  joined_count = refl;
  joined_list = refl;
  inside = refl;
  below_zero = refl;
  nothing = refl;
  large = refl;
  in_between = refl;
  not_in_between = refl;
  no_word = refl;
  covered_by_two = refl;
  with_a_gap = refl;
  covered_twice = refl;
  nothing_covered = refl;
  by_single_ones = refl;
  share_one = refl;
  share_none = refl;
  share_nothing = refl;
  share_element = refl;
}
