use Rattle.std.proofs.Common.{◌∙◌, map, subst, sym, ap}
use Rattle.std.specs.List.{AllByRecursion}
use Rattle.grammar.specs.BlockView.{structure_view}
use Rattle.stage_definitions.specs.DataAnswer.{given_by}
use Rattle.structure_entries.specs.SaidViews.{said_view}
use Rattle.data_domains.specs.TypeSets.{AreTypesOf}
use Rattle.data_filling.specs.Filling.{AreAccepted}
use Rattle.size_stage.specs.Counted.{IsCountable}
use Rattle.size_stage.specs.Measures.{measure_view}
use Rattle.type_derivation.specs.TypedViews.{typed_view}
use Rattle.structure_reader.proofs.Accepted.{can_be_filled, is_measured, sizes_refused}
use Rattle.structure_reader.proofs.NextDomain.{all_countable}
use Rattle.structure_reader.proofs.reading.read_data.Goals as goal

pub fill-requires-clause-accepted : goal.fill-requires-clause-accepted
fill-requires-clause-accepted c =
    let entries = c.in-Ok.given.0.items in
    subst (AreAccepted c.args.kb.now.vocab) (sym (ap (map said_view) c.deref-2.ensures.value))
    (can_be_filled (typed_view c.args.kb.now) c.args.theory (structure_view c.args.raw.now) (map said_view entries)
    c.in-Ok.given.1.items c.in-Ok.ensures.ok)

pub sizes_of-requires : goal.sizes_of-requires
sizes_of-requires c =
    subst (AllByRecursion IsCountable) (sym c.deref.ensures.value) (all_countable c.args.kb.now.vocab.types
    (map said_view c.in-Ok.given.0.items) c.in-Ok.given.1.items c.in-Ok.ensures.ok.types_are)

pub returns-in-Err-sizes_of-clause-err : goal.returns-in-Err-sizes_of-clause-err
returns-in-Err-sizes_of-clause-err c =
    let es = map said_view c.in-Ok.given.0.items in
    let there = subst (AreTypesOf c.args.kb.now.vocab.types es) (sym c.deref.ensures.value)
    c.in-Ok.ensures.ok.types_are in
    sizes_refused (typed_view c.args.kb.now) c.args.theory (structure_view c.args.raw.now) es c.in-Ok.given.1.items
    c.in-Ok.ensures.ok c.in-Err-sizes_of.e (c.in-Err-sizes_of.ensures.err es there)

pub returns-in-Ok-fill-clause-ok : goal.returns-in-Ok-fill-clause-ok
returns-in-Ok-fill-clause-ok c =
    let es = map said_view c.in-Ok.given.0.items in
    let there = subst (AreTypesOf c.args.kb.now.vocab.types es) (sym c.deref.ensures.value)
    c.in-Ok.ensures.ok.types_are in
    is_measured (typed_view c.args.kb.now) c.args.theory (structure_view c.args.raw.now) es c.in-Ok.given.1.items
    c.in-Ok.ensures.ok c.in-Ok-fill.partial
    (c.in-Ok-fill.ensures ∙ ap (λ xs. given_by c.args.kb.now.vocab (map said_view xs)) c.deref-2.ensures.value)
    (measure_view c.in-Ok-sizes_of.sizes) (c.in-Ok-sizes_of.ensures.ok es there)
