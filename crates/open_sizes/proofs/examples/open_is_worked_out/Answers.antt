use Rattle.std.proofs.Common.{refl}
use Rattle.open_sizes.proofs.examples.open_is_worked_out.Goals as goal

pub returns : goal.returns
returns c = record {
  map_weight = refl;
  map_open = refl;
  pair_weight = refl;
  pair_open = refl;
  certain_part = refl;
  certain_side = refl;
  open_part = refl;
  false_instances = refl;
  one_instance = refl;
  counted_instances = refl;
  constant = refl;
  nested = refl;
  known_argument = refl;
  two_sides = refl;
  open_conditions = refl;
  unknown_weight = refl;
  known_aggregate = refl;
  known_weight = refl;
  certain_body = refl;
  open_body = refl;
  no_body = refl;
  open_term = refl;
  known_term = refl;
  open_aggregate = refl;
}
