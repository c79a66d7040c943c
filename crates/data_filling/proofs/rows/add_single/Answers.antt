use Rattle.std.proofs.Common.{Bool, sym, ap, map, option_map, subst, ◌∙◌}
use Rattle.std.proofs.lemmas.Result.{on_ok_weaker}
use Rattle.kb_logic.specs.Models.{GroundAtom, IsAtomOver}
use Rattle.partial_structures.specs.KnownAtoms.{value_at, with_true, with_false}
use Rattle.row_tries.specs.Lent.{lent_view}
use Rattle.structure_entries.specs.EntryViews.{row_view}
use Rattle.data_filling.specs.Filling.{atom_with, single_fact}
use Rattle.data_filling.proofs.RowsOver.{row_atom}
use Rattle.data_filling.proofs.Singles.{atom_over}
use Rattle.data_filling.proofs.Steps.{stated, adds_one}
use Rattle.data_filling.proofs.Unopposed.{not_false_yet, not_true_yet}
use Rattle.data_filling.proofs.rows.add_single.Goals as goal

pub affirm-requires-clause-over : goal.affirm-requires-clause-over
affirm-requires-clause-over c =
    let r = row_view c.args.row.now in
    let xs = map lent_view c.args.args.now in
    let v = option_map lent_view c.in_ok-value.value in
    let f = single_fact c.args.holds c.args.symbol r xs in
    let is = row_atom c.args.holds c.args.symbol c.in_ok-number.number r xs v c.in_ok-number.ensures
    c.in_ok-value.ensures in
    subst (λ (a : GroundAtom). IsAtomOver c.args.partial.now.symbols c.args.partial.now.domains a) (sym is)
    (atom_over f xs c.args.partial.now.symbols c.args.partial.now.domains c.requires.over)

pub affirm-requires-clause-free : goal.affirm-requires-clause-free
affirm-requires-clause-free c = λ e.
    let r = row_view c.args.row.now in
    let xs = map lent_view c.args.args.now in
    let v = option_map lent_view c.in_ok-value.value in
    let f = single_fact c.args.holds c.args.symbol r xs in
    let is = row_atom c.args.holds c.args.symbol c.in_ok-number.number r xs v c.in_ok-number.ensures
    c.in_ok-value.ensures in
    not_false_yet c.args.partial.now f xs c.requires.over c.requires.open_to c.if-holds.true
    (sym (ap (value_at c.args.partial.now) is) ∙ e)

pub returns-then-holds : goal.returns-then-holds
returns-then-holds c =
    let r = row_view c.args.row.now in
    let xs = map lent_view c.args.args.now in
    let v = option_map lent_view c.in_ok-value.value in
    let f = single_fact c.args.holds c.args.symbol r xs in
    let is = row_atom c.args.holds c.args.symbol c.in_ok-number.number r xs v c.in_ok-number.ensures
    c.in_ok-value.ensures in
    on_ok_weaker c.affirm.result
    (λ e. adds_one c.args.partial.now c.affirm.new.self f xs c.requires.over
    (e ∙ ap (with_true c.args.partial.now) is
    ∙ ap (λ (h : Bool). stated h c.args.partial.now (atom_with f xs)) (sym c.if-holds.true)))
    c.affirm.ensures.ok

pub deny-requires-clause-over : goal.deny-requires-clause-over
deny-requires-clause-over c =
    let r = row_view c.args.row.now in
    let xs = map lent_view c.args.args.now in
    let v = option_map lent_view c.in_ok-value.value in
    let f = single_fact c.args.holds c.args.symbol r xs in
    let is = row_atom c.args.holds c.args.symbol c.in_ok-number.number r xs v c.in_ok-number.ensures
    c.in_ok-value.ensures in
    subst (λ (a : GroundAtom). IsAtomOver c.args.partial.now.symbols c.args.partial.now.domains a) (sym is)
    (atom_over f xs c.args.partial.now.symbols c.args.partial.now.domains c.requires.over)

pub deny-requires-clause-free : goal.deny-requires-clause-free
deny-requires-clause-free c = λ e.
    let r = row_view c.args.row.now in
    let xs = map lent_view c.args.args.now in
    let v = option_map lent_view c.in_ok-value.value in
    let f = single_fact c.args.holds c.args.symbol r xs in
    let is = row_atom c.args.holds c.args.symbol c.in_ok-number.number r xs v c.in_ok-number.ensures
    c.in_ok-value.ensures in
    not_true_yet c.args.partial.now f xs c.requires.over c.requires.open_to c.if-holds.false
    (sym (ap (value_at c.args.partial.now) is) ∙ e)

pub returns-else-holds : goal.returns-else-holds
returns-else-holds c =
    let r = row_view c.args.row.now in
    let xs = map lent_view c.args.args.now in
    let v = option_map lent_view c.in_ok-value.value in
    let f = single_fact c.args.holds c.args.symbol r xs in
    let is = row_atom c.args.holds c.args.symbol c.in_ok-number.number r xs v c.in_ok-number.ensures
    c.in_ok-value.ensures in
    on_ok_weaker c.deny.result
    (λ e. adds_one c.args.partial.now c.deny.new.self f xs c.requires.over
    (e ∙ ap (with_false c.args.partial.now) is
    ∙ ap (λ (h : Bool). stated h c.args.partial.now (atom_with f xs)) (sym c.if-holds.false)))
    c.deny.ensures.ok
