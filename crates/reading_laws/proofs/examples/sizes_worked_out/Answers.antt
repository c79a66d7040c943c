use Rattle.std.proofs.Common.{refl}
use Rattle.reading_laws.proofs.examples.sizes_worked_out.Goals as goal

pub returns : goal.returns
returns c = record {
  atoms_of_areas = refl;
  weight_of_areas = refl;
  weight_of_propositions = refl;
  atoms_of_timetable = refl;
  weight_of_timetable = refl;
  few_atoms = refl;
  too_many_atoms = refl;
  too_heavy = refl;
  light_enough = refl;
  not_chosen = refl;
  small_product = refl;
  large_product = refl;
  large_front = refl;
  large_part = refl;
  only_inside = refl;
  at_the_limit = refl;
  past_the_limit = refl;
  empty_type = refl;
  bounded_sum = refl;
  unbounded_sum = refl;
  in_the_theory = refl;
  in_the_other = refl;
  in_a_body = refl;
  small_body = refl;
  in_a_head = refl;
}
