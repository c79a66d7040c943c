use Rattle.std.proofs.Common.{◌≡◌, ◌≤◌, ◌<◌, ◌+◌, ◌*◌, Some, length, map, option_map, ap, ◌∙◌, arith}
use Rattle.kb_logic.specs.Values.{value_view}
use Rattle.term_values.specs.DomainIndexes.{elem_index}
use Rattle.term_values.specs.GroundBases.{GroundBase, first_var, row_index, tuples_at, values_at}
use Rattle.term_values.specs.RowValues.{row_value}
use Rattle.term_values.proofs.VariableLemmas.{value_variable_here}
use Rattle.definition_walk.proofs.HeadValues.{index-within, valued-at}
use Rattle.definition_walk.proofs.SymbolSteps.{known-sum}
use Rattle.definition_walk.proofs.heads.value_variable.Goals as goal

module _ (c : goal.After-first_var) where
  abbrev base : GroundBase
  base = c.args.base.now

  inside : c.in-Some.index < length c.values-values.result.now
  inside =
      let size = ap length c.values-values.ensures in
      let within = index-within (values_at base c.args.symbol) (value_view c.args.value) c.in-Some.index
      c.in-Some.ensures in
      omega (arith, size, within)

  here : (c.args.symbol < length base.vocabulary.symbols)
      × (first_var base c.args.symbol + c.in-Some-place_of.place * length c.values-values.result.now
      + length c.values-values.result.now ≤ 9223372036854775808)
      × (Some (first_var base c.args.symbol + c.in-Some-place_of.place * length c.values-values.result.now)
      ≡ option_map (λ i. first_var base c.args.symbol + i * length (values_at base c.args.symbol))
      (row_index (tuples_at base c.args.symbol) (map row_value c.args.args.now)))
  here =
      let size = ap length c.values-values.ensures in
      value_variable_here base c.args.symbol c.in-Some-place_of.place (length c.values-values.result.now)
      (map row_value c.args.args.now) (known-sum base c.requires) c.atoms-atoms.ensures.few
      (omega (arith, inside, size)) size c.in-Some-place_of.ensures

pub overflow_mul-result : goal.overflow_mul-result
overflow_mul-result c = let h = (here c).1 in omega (arith, h)

pub overflow_add-result : goal.overflow_add-result
overflow_add-result c = let h = (here c).1 in let e = c.first_var.ensures in omega (arith, h, e)

pub overflow_add-result-in-Some-place_of : goal.overflow_add-result-in-Some-place_of
overflow_add-result-in-Some-place_of c =
    let h = (here c).1 in
    let e = c.first_var.ensures in
    let i = inside c in
    omega (arith, h, e, i)

pub returns-in-Some-place_of : goal.returns-in-Some-place_of
returns-in-Some-place_of c =
    let b = c.args.base.now in
    let s = c.args.symbol in
    let n = c.in-Some-place_of.place * length c.values-values.result.now in
    ap (λ m. Some (m + n + c.in-Some.index)) c.first_var.ensures
    ∙ valued-at b s (first_var b s + n) c.in-Some.index (row_index (tuples_at b s) (map row_value c.args.args.now))
    (elem_index (values_at b s) (value_view c.args.value)) (here c).2 c.in-Some.ensures
