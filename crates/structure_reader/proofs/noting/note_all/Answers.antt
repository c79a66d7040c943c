use Rattle.std.proofs.Common.{[], ◌∙◌, fold, map, sym, ap, subst}
use Rattle.stage_definitions.specs.DataStage as stage
use Rattle.stage_definitions.specs.DataFacts.{facts_in}
use Rattle.structure_entries.specs.EntryViews.{fact_view}
use Rattle.structure_entries.specs.SaidViews.{said_view}
use Rattle.data_domains.specs.TypeSets.{AreTypesOf}
use Rattle.type_derivation.specs.TypedViews.{typed_view}
use Rattle.structure_reader.proofs.Uses.{four_lists}
use Rattle.structure_reader.proofs.noting.note_all.Goals as goal

pub returns : goal.returns
returns c =
    let kb = c.args.kb.now in
    let types = kb.vocab.types in
    let es = map said_view c.args.entries.now in
    let note = stage.data_noted types es in
    let old = c.args.earliest.now.first in
    let named = c.note_types.ensures es (subst (λ ds. AreTypesOf ds es c.args.types.now)
    (sym c.as_slice-decls.ensures) c.requires)
    ∙ ap (λ ds. fold (stage.data_noted ds es) old (stage.uses_of_types ds c.as_slice.result.now))
    c.as_slice-decls.ensures
    ∙ ap (λ ps. fold note old (stage.uses_of_types types ps)) c.as_slice.ensures in
    let clashing = c.in_ok-note_clashes.ensures types es ∙ ap (λ fs. fold note c.note_entries.new.earliest.first
    (stage.uses_of_facts [] fs)) (ap (map fact_view) c.deref.ensures.value)
    ∙ c.in_ok-facts.ensures types es c.note_entries.new.earliest.first in
    four_lists note (stage.uses_of_types types kb.places.types) (stage.uses_of_entries [] es)
    (stage.uses_of_facts [] (facts_in es)) (stage.argument_uses (typed_view kb) c.args.theory)
    old c.note_types.new.earliest.first c.note_entries.new.earliest.first c.note_clashes.new.earliest.first _
    named (c.in_ok-note_entries.ensures types es c.requires) clashing
    (c.in_ok-note_arguments.ensures types es c.requires)
