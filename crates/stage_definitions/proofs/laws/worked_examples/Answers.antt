use Rattle.std.proofs.Common.{refl}
use Rattle.stage_definitions.proofs.laws.worked_examples.Goals as goal

pub returns : goal.returns
returns c = record {
  variable_as_formula = refl;
  variable_with_arguments = refl;
  element_as_formula = refl;
  function_as_formula = refl;
  predicate_with_other_count = refl;
  predicate_as_formula = refl;
  element_with_arguments = refl;
  type_as_term = refl;
  number_type_as_formula = refl;
  number_type_of_argument = refl;
  predicate_as_type = refl;
  predicate_as_parent = refl;
  number_type_as_parent = refl;
  unknown_type = refl;
  defined_in_body = refl;
  other_in_body = refl;
  variable_as_head = refl;
  element_as_head = refl;
  variable_in_head = refl;
  element_in_head = refl;
  minus_in_head = refl;
  value_in_head = refl;
  taken = refl;
  element_declared_again = refl;
  variable_bound_twice = refl;
  first_declaration = refl;
  types_up_to_256 = refl;
  types_past_256 = refl;
  own_parent = refl;
  first_of_two = refl;
  second_of_two = refl;
  on_the_way = refl;
  shadowed = refl;
  empty_brackets = refl;
  in_brackets = refl;
  minus_two_times_three = refl;
  value_as_variable = refl;
  right = refl;
  left = refl;
  both = refl;
}
