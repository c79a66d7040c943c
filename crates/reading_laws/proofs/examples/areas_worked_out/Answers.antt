use Rattle.std.proofs.Common.{refl}
use Rattle.reading_laws.proofs.examples.areas_worked_out.Goals as goal

pub returns : goal.returns
returns c = record {
  accepted = refl;
  answer = refl;
  no_list = refl;
  no_area = refl;
  no_list_of_areas = refl;
  both_ways = refl;
  out_of_range = refl;
  many_areas = refl;
  commas = refl;
  tuple = refl;
  unknown_word = refl;
  no_type = refl;
  an_element = refl;
  twice = refl;
  mark_and_none = refl;
  two_marks = refl;
  other_form = refl;
  short_row = refl;
  arrow_too_many = refl;
  arrow_too_few = refl;
  range_elsewhere = refl;
  range_and_short = refl;
  range_of_names = refl;
  other_mark = refl;
  mark_on_type = refl;
  same_set = refl;
  other_set = refl;
  whole = refl;
  no_value = refl;
  marked_need_not = refl;
  two_values = refl;
  no_color = refl;
  long_row = refl;
  all_false = refl;
  value_both_ways = refl;
  range_in_constructed = refl;
  form_before_mark = refl;
  two_lists = refl;
  second_list = refl;
  other_value_is_false = refl;
  known_colors = refl;
}
