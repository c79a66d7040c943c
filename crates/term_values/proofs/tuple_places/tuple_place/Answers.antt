use Rattle.std.proofs.Common.{arith, ◌<◌, ◌*◌, ◌+◌, [], sym, ap, ◌∙◌, map, length, option_map, get_or}
use Rattle.std.proofs.lemmas.List.{length-map, get_or-map}
use Rattle.kb_logic.specs.declared.values.Value.TheVariants.{Named}
use Rattle.kb_logic.specs.Denotations.{undefined}
use Rattle.kb_logic.specs.Structures.{domain_at}
use Rattle.term_values.specs.declared.rows.RowValue.{RowValue}
use Rattle.term_values.specs.RowValues.{row_value}
use Rattle.term_values.specs.VariableTables.{capped}
use Rattle.term_values.specs.DomainIndexes.{elem_index}
use Rattle.term_values.proofs.RadixLemmas.{other_length, digit_more, digit_missing}
use Rattle.term_values.proofs.tuple_places.tuple_place.Goals as goal

abbrev blank : RowValue
blank = record { value = Named (record { ref_ptr = (0, 0); now = [] }) }

pub returns-then-types-values : goal.returns-then-types-values
returns-then-types-values c =
    let vs = c.args.values.now in
    let size = length-map vs row_value in
    ap (option_map capped) (sym
    (other_length c.args.domains.now c.args.types.now (map row_value vs) (λ e. c.if-types-values.true (e ∙ size))))

pub returns-in-None : goal.returns-in-None
returns-in-None c =
    let d = c.args.domains.now in
    let types = c.args.types.now in
    let vs = c.args.values.now in
    let i = c.loop-i.i in
    let size = length-map vs row_value in
    let same = c.if-types-values.false in
    let inside : i < length vs = omega arith in
    let item = get_or-map row_value vs i blank undefined inside in
    let digit = ap (elem_index (domain_at d (get_or types i 0))) item ∙ sym (c.in-None.ensures d c.requires) in
    sym (digit_missing d types (map row_value vs) i c.loop-i.place c.loop-i-test.true (omega arith) digit)
    ∙ c.loop-i.invariant.same

pub loop-i-preserved : goal.loop-i-preserved
loop-i-preserved c =
    let d = c.args.domains.now in
    let types = c.args.types.now in
    let vs = c.args.values.now in
    let i = c.loop-i.i in
    let size = length-map vs row_value in
    let same = c.if-types-values.false in
    let inside : i < length vs = omega arith in
    let item = get_or-map row_value vs i blank undefined inside in
    let digit = ap (elem_index (domain_at d (get_or types i 0))) item ∙ sym (c.in-Some.ensures d c.requires) in
    let base = ap length c.domain_in.ensures in
    let next = c.saturating_add-place.ensures
    ∙ (ap (λ n. capped (n + c.in-Some.digit)) c.saturating_mul.ensures
    ∙ ap (λ n. capped (capped (c.loop-i.place * n) + c.in-Some.digit)) base) in
    let most = c.saturating_add-place.type_inv in
    record {
      same =
          digit_more d types (map row_value vs) i c.loop-i.place c.in-Some.digit c.saturating_add-place.result
          c.loop-i-test.true (omega arith) digit next
          ∙ c.loop-i.invariant.same;
      fits = omega arith;
    }
