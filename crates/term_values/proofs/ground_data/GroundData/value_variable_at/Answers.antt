use Rattle.std.proofs.Common.{arith, ◌≡◌, ◌<◌, ◌≤◌, ◌+◌, ◌*◌, ap, ◌∙◌, subst, map, length, Some, option_map}
use Rattle.std.specs.List.{sum_by}
use Rattle.term_values.specs.GroundBases.{GroundBase, atoms_in, row_index, tuples_at, values_at, first_var}
use Rattle.term_values.specs.RowValues.{row_value}
use Rattle.term_values.proofs.VariableLemmas.{value_variable_here}
use Rattle.term_values.proofs.ground_data.GroundData.value_variable_at.Goals as goal

module _ (c : goal.After-first_var) where
  abbrev base : GroundBase
  base = c.args.self.now

  here : (c.args.symbol < length base.vocabulary.symbols)
      × (first_var base c.args.symbol + c.in-Some.place * length c.values.result.now + length c.values.result.now
      ≤ 9223372036854775808)
      × (Some (first_var base c.args.symbol + c.in-Some.place * length c.values.result.now)
      ≡ option_map (λ i. first_var base c.args.symbol + i * length (values_at base c.args.symbol))
      (row_index (tuples_at base c.args.symbol) (map row_value c.args.args.now)))
  here =
      value_variable_here base c.args.symbol c.in-Some.place (length c.values.result.now)
      (map row_value c.args.args.now)
      (subst (λ (b : GroundBase). length b.known ≡ sum_by (atoms_in b.domains) b.vocabulary.symbols) c.self.view_is
      c.self.invariant.known)
      (subst (λ (b : GroundBase). length b.known < 9223372036854775808) c.self.view_is c.self.invariant.few)
      c.requires (ap length c.values.ensures) c.in-Some.ensures

pub overflow_mul-result : goal.overflow_mul-result
overflow_mul-result c = let h = (here c).1 in omega arith

pub overflow_add-result : goal.overflow_add-result
overflow_add-result c = let h = (here c).1 in let e = c.first_var.ensures in omega arith

pub returns-in-Some-clause-var : goal.returns-in-Some-clause-var
returns-in-Some-clause-var c = ap (λ n. Some (n + c.in-Some.place * length c.values.result.now)) c.first_var.ensures
    ∙ (here c).2

pub returns-in-Some-clause-few : goal.returns-in-Some-clause-few
returns-in-Some-clause-few c =
    let h = (here c).1 in
    let e = c.first_var.ensures in
    let s = ap length c.values.ensures in
    omega arith
