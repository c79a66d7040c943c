use Rattle.std.proofs.Common.{◌≡◌, ◌++◌, fold, map, take}
use Rattle.std.specs.List.{flat_map}
use Rattle.kb_logic.specs.Views as view
use Rattle.stage_definitions.specs.TermPlaces.{terms_begin}
use Rattle.stage_definitions.specs.TypedTrees.{typed_sentence}
use Rattle.stage_definitions.specs.TypesStage.{sentence_type_uses, type_noted}
use Rattle.stage_definitions.specs.NamedViews.{formula_view}
use Rattle.type_derivation.proofs.files.sentences.Given as goal

abbrev pub invariant-loop-item : goal.invariant-loop-item
invariant-loop-item l = record {
  trees : map view.formula_view l.sentences.items ≡ map (typed_sentence l.vocab)
      (map formula_view (take l.item-index l.named));
  places : l.places.items ≡ l.initial.places.items ++ flat_map terms_begin
      (map formula_view (take l.item-index l.named));
  noted : l.earliest.first ≡ fold (type_noted l.vocab.types) l.initial.earliest.first
      (flat_map (sentence_type_uses l.vocab) (map formula_view (take l.item-index l.named)));
}
