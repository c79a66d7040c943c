use Rattle.std.proofs.Common.{◌<◌, sym, ap, ◌∙◌, map, length, get_or, false, [], arith, rules}
use Rattle.std.proofs.lemmas.List.{length-map, get_or-map}
use Rattle.std.proofs.lemmas.Int.{ints}
use Rattle.kb_logic.specs.Denotations.{undefined}
use Rattle.kb_logic.specs.Values.{value_view}
use Rattle.kb_logic.specs.declared.syntax.Signed.{Signed}
use Rattle.kb_logic.specs.declared.values.Value.TheVariants.{Named}
use Rattle.term_values.specs.declared.rows.RowValue.{RowValue}
use Rattle.term_values.specs.RowSums.{sum_values, signs_of}
use Rattle.term_values.specs.RowValues.{row_value}
use Rattle.term_values.proofs.RowListLemmas.{sums_differ, sums_end, sums_next}
use Rattle.term_values.proofs.arithmetic.wide_sum.Goals as goal

abbrev blank : RowValue
blank = record { value = Named (record { ref_ptr = (0, 0); now = [] }) }

pub returns-then-parts-values : goal.returns-then-parts-values
returns-then-parts-values c =
    let parts = c.args.parts.now in
    let values = c.args.values.now in
    let a = length-map parts (λ (s : Signed). s.minus) in
    let b = length-map values row_value in
    sums_differ (signs_of parts) (map row_value values) (λ e. c.if-parts-values.true (sym a ∙ e ∙ b))

pub returns-in_default : goal.returns-in_default
returns-in_default c =
    let parts = c.args.parts.now in
    let values = c.args.values.now in
    let i = c.loop-i.i in
    let a = length-map parts (λ (s : Signed). s.minus) in
    let b = length-map values row_value in
    let same = c.if-parts-values.false in
    let inside : i < length values = omega arith in
    let item = get_or-map row_value values i blank undefined inside in
    sums_end (signs_of parts) (map row_value values) i _ (get_or values i blank).value
    (sum_values (signs_of parts) (map row_value values))
    (omega arith) (omega arith) item c.in_default.not-Num c.loop-i.invariant.same

pub loop-i-preserved : goal.loop-i-preserved
loop-i-preserved c =
    let parts = c.args.parts.now in
    let values = c.args.values.now in
    let i = c.loop-i.i in
    let a = length-map parts (λ (s : Signed). s.minus) in
    let b = length-map values row_value in
    let same = c.if-parts-values.false in
    let inside : i < length values = omega arith in
    let item = get_or-map row_value values i blank undefined inside in
    let sign = get_or-map (λ (s : Signed). s.minus) parts i c.index-parts-i.result false c.loop-i-test.true in
    let value = item ∙ ap value_view c.in-Num.is in
    record {
      same =
          sums_next (signs_of parts) (map row_value values) i (get_or parts i c.index-parts-i.result).minus c.in-Num.n _
          c.signed-total.result _
          (omega arith) (omega arith) sign value (search rules) c.signed-total.ensures.value (omega (arith, ints))
          ∙ c.loop-i.invariant.same;
      low = omega (arith, ints);
      high = omega (arith, ints);
    }
