use Rattle.std.proofs.Common.{◌≡◌, ◌∙◌, true, false, sym, ap, Some, None, slice_get}
use Rattle.std.specs.Option.{option_map}
use Rattle.kb_logic.specs.Denotations.{denotation_of}
use Rattle.partial_structures.specs.Applications.{arguments_typed, result_typed}
use Rattle.partial_structures.specs.Known.{Spot, known_in, is_whole, spot_of}
use Rattle.row_tries.specs.Rows.{mark_at}
use Rattle.partial_structures.specs.Values.{value_view}
use Rattle.partial_structures.proofs.Walks.{whole_is, given_untyped, given_unmarked, given_unnamed, given_outside}
use Rattle.partial_structures.proofs.Walks.{given_there}
use Rattle.partial_structures.proofs.lookups.given_value.Goals as goal

pub returns-then-not-is_complete : goal.returns-then-not-is_complete
returns-then-not-is_complete c = λ vs h.
    let a = c.args in
    let typed : arguments_typed (known_in a.s) (slice_get a.s.symbols.now a.symbol) vs ≡ false =
    sym (whole_is a.s a.symbol vs) ∙ sym (ap is_whole h) ∙ sym c.is_complete.ensures ∙ c.if-not-is_complete.true in
    sym (ap (option_map denotation_of) (given_untyped a.s a.symbol vs typed))

pub returns-in-None : goal.returns-in-None
returns-in-None c = λ vs h.
    let a = c.args in
    let node : a.place.node ≡ (spot_of a.s a.symbol vs).node = ap (λ (p : Spot). p.node) h in
    let mark : (mark_at a.s.rows.now.nodes.entries (spot_of a.s a.symbol vs).node).value ≡ None =
    ap (λ n. (mark_at a.s.rows.now.nodes.entries n).value) (sym node) ∙ sym (ap (λ m. m.value) c.mark.ensures)
    ∙ c.in-None.is in
    sym (ap (option_map denotation_of) (given_unmarked a.s a.symbol vs mark))

pub returns-in-None-value_of : goal.returns-in-None-value_of
returns-in-None-value_of c = λ vs h.
    let a = c.args in
    let node : a.place.node ≡ (spot_of a.s a.symbol vs).node = ap (λ (p : Spot). p.node) h in
    let mark : (mark_at a.s.rows.now.nodes.entries (spot_of a.s a.symbol vs).node).value ≡ Some c.in-Some.label =
    ap (λ n. (mark_at a.s.rows.now.nodes.entries n).value) (sym node) ∙ sym (ap (λ m. m.value) c.mark.ensures)
    ∙ c.in-Some.is in
    sym (ap (option_map denotation_of) (given_unnamed a.s a.symbol vs c.in-Some.label mark c.in-None-value_of.ensures))

pub returns-then-is_result : goal.returns-then-is_result
returns-then-is_result c = λ vs h.
    let a = c.args in
    let typed : arguments_typed (known_in a.s) (slice_get a.s.symbols.now a.symbol) vs ≡ true =
    sym (whole_is a.s a.symbol vs) ∙ sym (ap is_whole h) ∙ sym c.is_complete.ensures ∙ c.if-not-is_complete.false in
    let node : a.place.node ≡ (spot_of a.s a.symbol vs).node = ap (λ (p : Spot). p.node) h in
    let mark : (mark_at a.s.rows.now.nodes.entries (spot_of a.s a.symbol vs).node).value ≡ Some c.in-Some.label =
    ap (λ n. (mark_at a.s.rows.now.nodes.entries n).value) (sym node) ∙ sym (ap (λ m. m.value) c.mark.ensures)
    ∙ c.in-Some.is in
    let result : result_typed (known_in a.s) (slice_get a.s.symbols.now a.symbol) (value_view c.in-Some-value_of.value)
    ≡ true = sym c.is_result.ensures ∙ c.if-is_result.true in
    sym (given_there a.s a.symbol vs c.in-Some.label (value_view c.in-Some-value_of.value) typed mark
    c.in-Some-value_of.ensures result)

pub returns-else-is_result : goal.returns-else-is_result
returns-else-is_result c = λ vs h.
    let a = c.args in
    let node : a.place.node ≡ (spot_of a.s a.symbol vs).node = ap (λ (p : Spot). p.node) h in
    let mark : (mark_at a.s.rows.now.nodes.entries (spot_of a.s a.symbol vs).node).value ≡ Some c.in-Some.label =
    ap (λ n. (mark_at a.s.rows.now.nodes.entries n).value) (sym node) ∙ sym (ap (λ m. m.value) c.mark.ensures)
    ∙ c.in-Some.is in
    let result : result_typed (known_in a.s) (slice_get a.s.symbols.now a.symbol) (value_view c.in-Some-value_of.value)
    ≡ false = sym c.is_result.ensures ∙ c.if-is_result.false in
    sym (ap (option_map denotation_of) (given_outside a.s a.symbol vs c.in-Some.label
    (value_view c.in-Some-value_of.value) mark c.in-Some-value_of.ensures result))
