use Rattle.std.proofs.Common.{◌≡◌, ◌∙◌, List, None, fold, map, subst, sym, ap}
use Rattle.kb_logic.specs.declared.vocabularies.TypeDecl.{TypeDecl}
use Rattle.grammar.specs.BlockView.{structure_view}
use Rattle.stage_definitions.specs.DataEntries.{Said, said_in}
use Rattle.stage_definitions.specs.DataStage.{data_causes, data_noted, data_uses, is_data_refused, place_of_data_use}
use Rattle.stage_definitions.proofs.EarliestLaws.{earliest_noted, nothing_noted}
use Rattle.data_domains.specs.TypeSets.{AreTypesOf}
use Rattle.structure_entries.specs.SaidViews.{said_view}
use Rattle.type_derivation.specs.TypedViews.{typed_view}
use Rattle.structure_reader.proofs.reading.accepted.Goals as goal

pub returns-in-Some-clause-err : goal.returns-in-Some-clause-err
returns-in-Some-clause-err c =
    let kb = c.args.kb.now in
    let f = typed_view kb in
    let es = said_in kb.vocab (structure_view c.args.raw.now) in
    let us = data_uses f c.args.theory es in
    let said = ap (map said_view) c.deref-3.ensures.value ∙ c.in-Ok.ensures in
    let noted : c.note_all.new.earliest.first ≡ fold (data_noted kb.vocab.types es) None us =
    rw c.new-earliest.ensures at c.in-Ok-note_all.ensures ∙ ap (λ xs. fold (data_noted kb.vocab.types xs) None
    (data_uses f c.args.theory xs)) said in
    earliest_noted (is_data_refused kb.vocab.types es) place_of_data_use data_causes us c.in-Some.fault (sym noted
    ∙ c.in-Some.is)

pub returns-clause-ok : goal.returns-clause-ok
returns-clause-ok c =
    let kb = c.args.kb.now in
    let f = typed_view kb in
    let es = said_in kb.vocab (structure_view c.args.raw.now) in
    let us = data_uses f c.args.theory es in
    let said = ap (map said_view) c.deref-3.ensures.value ∙ c.in-Ok.ensures in
    let noted : c.note_all.new.earliest.first ≡ fold (data_noted kb.vocab.types es) None us =
    rw c.new-earliest.ensures at c.in-Ok-note_all.ensures ∙ ap (λ xs. fold (data_noted kb.vocab.types xs) None
    (data_uses f c.args.theory xs)) said in
    let entries = c.in-Ok.entries.items in
    let types = c.in-Ok-types_of.types.items in
    let said_there = subst (λ (xs : List Said). AreTypesOf c.as_slice.result.now xs types)
    (ap (map said_view) c.deref.ensures.value) c.in-Ok-types_of.ensures in
    let declared_there = subst (λ (ds : List TypeDecl). AreTypesOf ds (map said_view entries) types)
    c.as_slice.ensures said_there in
    record {
      accepted = nothing_noted (is_data_refused kb.vocab.types es) place_of_data_use data_causes us (sym noted
          ∙ c.in_default-first.is);
      said = c.in-Ok.ensures;
      types_are = declared_there;
    }
