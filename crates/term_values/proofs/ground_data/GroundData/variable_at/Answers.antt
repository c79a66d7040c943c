use Rattle.std.proofs.Common.{arith, ◌≡◌, ◌<◌, ◌+◌, ap, ◌∙◌, subst, map, length, Some, option_map}
use Rattle.std.specs.List.{sum_by}
use Rattle.term_values.specs.GroundBases.{GroundBase, atoms_in, row_index, tuples_at, first_var}
use Rattle.term_values.specs.RowValues.{row_value}
use Rattle.term_values.proofs.VariableLemmas.{variable_here}
use Rattle.term_values.proofs.ground_data.GroundData.variable_at.Goals as goal

module _ (c : goal.After-first_var) where
  abbrev base : GroundBase
  base = c.args.self.now

  here : (c.args.symbol < length base.vocabulary.symbols)
      × (first_var base c.args.symbol + c.in-Some.place < 18446744073709551616)
      × (Some (first_var base c.args.symbol + c.in-Some.place)
      ≡ option_map (λ i. first_var base c.args.symbol + i)
      (row_index (tuples_at base c.args.symbol) (map row_value c.args.values.now)))
  here =
      variable_here base c.args.symbol c.in-Some.place c.first_var.result (map row_value c.args.values.now)
      (subst (λ (b : GroundBase). length b.known ≡ sum_by (atoms_in b.domains) b.vocabulary.symbols) c.self.view_is
      c.self.invariant.known)
      (subst (λ (b : GroundBase). length b.known < 9223372036854775808) c.self.view_is c.self.invariant.few)
      c.requires c.in-Some.ensures

pub overflow_add-result : goal.overflow_add-result
overflow_add-result c =
    let h = (here c).1 in
    let e = c.first_var.ensures in
    omega arith

pub returns-in-Some : goal.returns-in-Some
returns-in-Some c = ap (λ n. Some (n + c.in-Some.place)) c.first_var.ensures ∙ (here c).2
