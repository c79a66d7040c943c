use Rattle.std.proofs.Common.{◌≡◌, ◌∙◌, true, false, if◌then◌else◌, Some, None, sym, ap, slice_get}
use Rattle.partial_structures.specs.Applications.{arguments_typed, result_typed, outside_value}
use Rattle.partial_structures.specs.KnownAtoms.{value_of_row}
use Rattle.partial_structures.specs.Known.{Spot, known_in, is_whole, spot_of}
use Rattle.row_tries.specs.Rows.{child_by, mark_at}
use Rattle.partial_structures.specs.AtomRows.{denied, settled, value_status}
use Rattle.partial_structures.specs.Flags.{is_closed}
use Rattle.row_tries.specs.Words.{words_in}
use Rattle.partial_structures.specs.Values.{value_view}
use Rattle.row_tries.specs.Values.{value_label}
use Rattle.row_tries.specs.declared.truths.Truth.TheVariants.{Unknown}
use Rattle.partial_structures.proofs.Walks.{whole_is, value_row_known, status_at, label_status, label_other}
use Rattle.partial_structures.proofs.Walks.{option_label, option_equal, equal_option}
use Rattle.std.proofs.lemmas.Bool.{true≢false}
use Rattle.partial_structures.proofs.lookups.value_truth.Goals as goal

pub returns-then-not-is_complete : goal.returns-then-not-is_complete
returns-then-not-is_complete c = λ vs h.
    let a = c.args in
    let typed : arguments_typed (known_in a.s) (slice_get a.s.symbols.now a.symbol) vs ≡ false =
    sym (whole_is a.s a.symbol vs) ∙ sym (ap is_whole h) ∙ sym c.is_complete.ensures ∙ c.if-not-is_complete.true in
    sym (ap (λ b. if b then (if result_typed (known_in a.s) (slice_get a.s.symbols.now a.symbol) (value_view a.value)
    then value_of_row (known_in a.s) a.symbol vs (Some (value_view a.value)) else
    outside_value (slice_get a.s.symbols.now a.symbol)) else Unknown) typed)

pub returns-then-not-is_result : goal.returns-then-not-is_result
returns-then-not-is_result c = λ vs h.
    let a = c.args in
    let typed : arguments_typed (known_in a.s) (slice_get a.s.symbols.now a.symbol) vs ≡ true =
    sym (whole_is a.s a.symbol vs) ∙ sym (ap is_whole h) ∙ sym c.is_complete.ensures ∙ c.if-not-is_complete.false in
    c.outside.ensures ∙ sym (ap (λ b. if b then (if result_typed (known_in a.s) (slice_get a.s.symbols.now a.symbol)
    (value_view a.value) then value_of_row (known_in a.s) a.symbol vs (Some (value_view a.value)) else
    outside_value (slice_get a.s.symbols.now a.symbol)) else Unknown) typed
    ∙ ap (λ b. if b then value_of_row (known_in a.s) a.symbol vs (Some (value_view a.value)) else
    outside_value (slice_get a.s.symbols.now a.symbol)) (sym c.is_result.ensures ∙ c.if-not-is_result.true))

pub returns-then-eq : goal.returns-then-eq
returns-then-eq c = λ vs h.
    let a = c.args in
    let typed : arguments_typed (known_in a.s) (slice_get a.s.symbols.now a.symbol) vs ≡ true =
    sym (whole_is a.s a.symbol vs) ∙ sym (ap is_whole h) ∙ sym c.is_complete.ensures ∙ c.if-not-is_complete.false in
    let result : result_typed (known_in a.s) (slice_get a.s.symbols.now a.symbol) (value_view a.value) ≡ true =
    sym c.is_result.ensures ∙ c.if-not-is_result.false in
    let node : a.place.node ≡ (spot_of a.s a.symbol vs).node = ap (λ (p : Spot). p.node) h in
    let mark : (mark_at a.s.rows.now.nodes.entries a.place.node).value ≡ Some c.in-Some.label =
    sym (ap (λ m. m.value) c.mark.ensures) ∙ c.in-Some.is in
    sym (ap (λ b. if b then (if result_typed (known_in a.s) (slice_get a.s.symbols.now a.symbol) (value_view a.value)
    then value_of_row (known_in a.s) a.symbol vs (Some (value_view a.value)) else
    outside_value (slice_get a.s.symbols.now a.symbol)) else Unknown) typed
    ∙ ap (λ b. if b then value_of_row (known_in a.s) a.symbol vs (Some (value_view a.value)) else
    outside_value (slice_get a.s.symbols.now a.symbol)) result
    ∙ value_row_known a.s a.symbol vs (value_view a.value) typed result
    ∙ ap (λ n. status_at a.s a.symbol n (value_label (words_in a.s.rows.now.words) (value_view a.value))) (sym node)
    ∙ label_status a.s a.symbol a.place.node c.in-Some.label (value_label (words_in a.s.rows.now.words)
    (value_view a.value)) mark (option_equal (value_label (words_in a.s.rows.now.words) (value_view a.value))
    c.in-Some.label (ap (λ o. option_label o c.in-Some.label) (sym c.value_label.ensures) ∙ sym c.eq.ensures
    ∙ c.if-eq.true)))

pub returns-else-eq : goal.returns-else-eq
returns-else-eq c = λ vs h.
    let a = c.args in
    let typed : arguments_typed (known_in a.s) (slice_get a.s.symbols.now a.symbol) vs ≡ true =
    sym (whole_is a.s a.symbol vs) ∙ sym (ap is_whole h) ∙ sym c.is_complete.ensures ∙ c.if-not-is_complete.false in
    let result : result_typed (known_in a.s) (slice_get a.s.symbols.now a.symbol) (value_view a.value) ≡ true =
    sym c.is_result.ensures ∙ c.if-not-is_result.false in
    let node : a.place.node ≡ (spot_of a.s a.symbol vs).node = ap (λ (p : Spot). p.node) h in
    let mark : (mark_at a.s.rows.now.nodes.entries a.place.node).value ≡ Some c.in-Some.label =
    sym (ap (λ m. m.value) c.mark.ensures) ∙ c.in-Some.is in
    sym (ap (λ b. if b then (if result_typed (known_in a.s) (slice_get a.s.symbols.now a.symbol) (value_view a.value)
    then value_of_row (known_in a.s) a.symbol vs (Some (value_view a.value)) else
    outside_value (slice_get a.s.symbols.now a.symbol)) else Unknown) typed
    ∙ ap (λ b. if b then value_of_row (known_in a.s) a.symbol vs (Some (value_view a.value)) else
    outside_value (slice_get a.s.symbols.now a.symbol)) result
    ∙ value_row_known a.s a.symbol vs (value_view a.value) typed result
    ∙ ap (λ n. status_at a.s a.symbol n (value_label (words_in a.s.rows.now.words) (value_view a.value))) (sym node)
    ∙ label_other a.s a.symbol a.place.node c.in-Some.label (value_label (words_in a.s.rows.now.words)
    (value_view a.value)) mark (λ e. true≢false (sym (equal_option (value_label (words_in a.s.rows.now.words)
    (value_view a.value)) c.in-Some.label e) ∙ ap (λ o. option_label o c.in-Some.label) (sym c.value_label.ensures)
    ∙ sym c.eq.ensures ∙ c.if-eq.false)))

pub returns-in-None : goal.returns-in-None
returns-in-None c = λ vs h.
    let a = c.args in
    let typed : arguments_typed (known_in a.s) (slice_get a.s.symbols.now a.symbol) vs ≡ true =
    sym (whole_is a.s a.symbol vs) ∙ sym (ap is_whole h) ∙ sym c.is_complete.ensures ∙ c.if-not-is_complete.false in
    let result : result_typed (known_in a.s) (slice_get a.s.symbols.now a.symbol) (value_view a.value) ≡ true =
    sym c.is_result.ensures ∙ c.if-not-is_result.false in
    let node : a.place.node ≡ (spot_of a.s a.symbol vs).node = ap (λ (p : Spot). p.node) h in
    let mark : (mark_at a.s.rows.now.nodes.entries a.place.node).value ≡ None = sym (ap (λ m. m.value) c.mark.ensures)
    ∙ c.in-None.is in
    let l = value_label (words_in a.s.rows.now.words) (value_view a.value) in
    let other = settled (is_closed a.s.closed.now a.symbol) (denied
    (mark_at a.s.rows.now.nodes.entries (child_by a.s.rows.now.nodes.entries a.place.node l)).known) in
    let said : c.if_closed.result ≡ other = rw (
      c.flag.ensures,
      c.denial.ensures,
      c.mark-in-None.ensures,
      c.step_value-node.ensures,
    ) at c.if_closed.ensures in
    said ∙ sym (ap (λ b. if b then (if result_typed (known_in a.s) (slice_get a.s.symbols.now a.symbol)
    (value_view a.value) then value_of_row (known_in a.s) a.symbol vs (Some (value_view a.value)) else
    outside_value (slice_get a.s.symbols.now a.symbol)) else Unknown) typed
    ∙ ap (λ b. if b then value_of_row (known_in a.s) a.symbol vs (Some (value_view a.value)) else
    outside_value (slice_get a.s.symbols.now a.symbol)) result
    ∙ value_row_known a.s a.symbol vs (value_view a.value) typed result
    ∙ ap (λ n. status_at a.s a.symbol n l) (sym node)
    ∙ ap (λ o. value_status o l other) mark)
