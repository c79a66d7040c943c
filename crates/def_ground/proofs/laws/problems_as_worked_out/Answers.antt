use Rattle.std.proofs.Common.{refl}
use Rattle.def_ground.proofs.laws.problems_as_worked_out.Goals as goal

pub returns : goal.returns
returns c = record {
  plain_vars = refl;
  plain_gates = refl;
  plain_clauses = refl;
  defined_clauses = refl;
  fact_clauses = refl;
  order_vars = refl;
  order_gates = refl;
  order_clauses = refl;
  difference_terms = refl;
  count_sums = refl;
  count_clauses = refl;
  count_named = refl;
  least_gates = refl;
  least_clauses = refl;
}
