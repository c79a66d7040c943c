use Rattle.std.proofs.Common.{refl}
use Rattle.reading_laws.proofs.examples.numbers_worked_out.Goals as goal

pub returns : goal.returns
returns c = record {
  in_range = refl;
  past_range = refl;
  empty_range = refl;
  in_parts = refl;
  negative = refl;
  no_number = refl;
  occurring_word = refl;
  below_zero = refl;
  too_low = refl;
  occurring_too_high = refl;
  enough = refl;
  too_many = refl;
  too_many_first = refl;
  overlapping = refl;
  too_many_occur = refl;
  no_argument = refl;
  minus_argument = refl;
  an_argument = refl;
  overlapping_rows = refl;
  constant = refl;
  constant_row = refl;
  no_row = refl;
  two_rows = refl;
  false_rows = refl;
  constant_truth = refl;
  no_constant = refl;
  made_false = refl;
  certainly_false = refl;
  certainly_true = refl;
  says_nothing = refl;
  no_proposition = refl;
  clash_of_values = refl;
  what_occurs = refl;
  no_list_of_subtype = refl;
  no_subtype_given = refl;
  refused_in_list = refl;
  range_in_brackets = refl;
  comma_in_function = refl;
  not_above = refl;
}
