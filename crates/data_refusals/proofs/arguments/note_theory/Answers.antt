use Rattle.std.proofs.Common.{◌∙◌, ap, fold, map, sym}
use Rattle.std.specs.List.{flat_map}
use Rattle.stage_definitions.specs.DataStage as stage
use Rattle.type_derivation.specs.TypedViews.{named_theory_view}
use Rattle.data_refusals.proofs.Noting.{no_first, no_second, both_chosen, flat_one}
use Rattle.data_refusals.proofs.arguments.note_theory.Goals as goal

pub returns-in_default : goal.returns-in_default
returns-in_default c = λ all es h.
    let kb = c.args.kb.now in
    ap (λ xs. fold (stage.data_noted all es) c.args.earliest.now.first
    (map stage.argument (flat_map (stage.arguments_of_theory kb.vocab.symbols) xs)))
    (no_first named_theory_view kb.theories kb.places.theory_terms c.args.theory (sym c.in_default.ensures.value))

pub returns-in_default-get : goal.returns-in_default-get
returns-in_default-get c = λ all es h.
    let kb = c.args.kb.now in
    ap (λ xs. fold (stage.data_noted all es) c.args.earliest.now.first
    (map stage.argument (flat_map (stage.arguments_of_theory kb.vocab.symbols) xs)))
    (no_second named_theory_view kb.theories kb.places.theory_terms c.args.theory (sym c.in_default-get.ensures.value))

pub returns : goal.returns
returns c = λ all es h.
    let kb = c.args.kb.now in
    let note = stage.data_noted all es in
    let old = c.args.earliest.now.first in
    let named = named_theory_view c.in-Some.named.now in
    c.in_ok-note_items.ensures all es h
    ∙ ap (λ ss. fold note old (map stage.argument (stage.arguments_of_theory ss (named, c.as_slice.result.now))))
    c.as_slice-symbols.ensures
    ∙ ap (λ ps. fold note old (map stage.argument (stage.arguments_of_theory kb.vocab.symbols (named, ps))))
    c.as_slice.ensures
    ∙ ap (λ xs. fold note old (map stage.argument xs)) (flat_one (stage.arguments_of_theory kb.vocab.symbols)
    (named, c.in-Some-get.places.now))
    ∙ ap (λ xs. fold note old (map stage.argument (flat_map (stage.arguments_of_theory kb.vocab.symbols) xs)))
    (both_chosen named_theory_view kb.theories kb.places.theory_terms c.args.theory c.in-Some.named.now
    c.in-Some-get.places.now (sym c.in-Some.ensures.value) (sym c.in-Some-get.ensures.value))
