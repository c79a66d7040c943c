use Rattle.std.proofs.Common.{Bool, sym, ap, subst, ◌∙◌}
use Rattle.std.proofs.lemmas.Result.{on_ok_weaker}
use Rattle.kb_logic.specs.Models.{GroundAtom, IsAtomOver}
use Rattle.partial_structures.specs.KnownAtoms.{value_at, with_true, with_false}
use Rattle.structure_entries.specs.EntryViews.{fact_view}
use Rattle.data_filling.specs.Filling.{atom_with}
use Rattle.data_filling.proofs.Singles.{atom_over}
use Rattle.data_filling.proofs.Steps.{stated, adds_one}
use Rattle.data_filling.proofs.Unopposed.{not_false_yet, not_true_yet}
use Rattle.data_filling.proofs.facts.add_tuple.Goals as goal

pub affirm-requires-clause-over : goal.affirm-requires-clause-over
affirm-requires-clause-over c =
    subst (λ (a : GroundAtom). IsAtomOver c.args.partial.now.symbols c.args.partial.now.domains a)
    (sym c.in_ok-atom.ensures)
    (atom_over (fact_view c.args.fact.now) c.args.args c.args.partial.now.symbols c.args.partial.now.domains
    c.requires.over)

pub affirm-requires-clause-free : goal.affirm-requires-clause-free
affirm-requires-clause-free c = λ e.
    not_false_yet c.args.partial.now (fact_view c.args.fact.now) c.args.args c.requires.over c.requires.open_to
    c.if-fact.true
    (sym (ap (value_at c.args.partial.now) c.in_ok-atom.ensures) ∙ e)

pub returns-then-fact : goal.returns-then-fact
returns-then-fact c =
    on_ok_weaker c.affirm.result
    (λ e. adds_one c.args.partial.now c.affirm.new.partial (fact_view c.args.fact.now) c.args.args c.requires.over
    (e ∙ ap (with_true c.args.partial.now) c.in_ok-atom.ensures
    ∙ ap (λ (h : Bool). stated h c.args.partial.now (atom_with (fact_view c.args.fact.now) c.args.args))
    (sym c.if-fact.true)))
    c.affirm.ensures

pub deny-requires-clause-over : goal.deny-requires-clause-over
deny-requires-clause-over c =
    subst (λ (a : GroundAtom). IsAtomOver c.args.partial.now.symbols c.args.partial.now.domains a)
    (sym c.in_ok-atom.ensures)
    (atom_over (fact_view c.args.fact.now) c.args.args c.args.partial.now.symbols c.args.partial.now.domains
    c.requires.over)

pub deny-requires-clause-free : goal.deny-requires-clause-free
deny-requires-clause-free c = λ e.
    not_true_yet c.args.partial.now (fact_view c.args.fact.now) c.args.args c.requires.over c.requires.open_to
    c.if-fact.false
    (sym (ap (value_at c.args.partial.now) c.in_ok-atom.ensures) ∙ e)

pub returns : goal.returns
returns c =
    on_ok_weaker c.deny.result
    (λ e. adds_one c.args.partial.now c.deny.new.partial (fact_view c.args.fact.now) c.args.args c.requires.over
    (e ∙ ap (with_false c.args.partial.now) c.in_ok-atom.ensures
    ∙ ap (λ (h : Bool). stated h c.args.partial.now (atom_with (fact_view c.args.fact.now) c.args.args))
    (sym c.if-fact.false)))
    c.deny.ensures
