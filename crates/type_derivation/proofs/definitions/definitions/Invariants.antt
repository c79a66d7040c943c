use Rattle.std.proofs.Common.{◌≡◌, ◌++◌, fold, map, take}
use Rattle.std.specs.List.{flat_map}
use Rattle.kb_logic.specs.Views as view
use Rattle.stage_definitions.specs.TermPlaces.{rule_begins}
use Rattle.stage_definitions.specs.TypedFiles.{typed_definition}
use Rattle.stage_definitions.specs.TypesStage.{rule_type_uses, type_noted}
use Rattle.stage_definitions.specs.NamedViews.{definition_view}
use Rattle.type_derivation.proofs.definitions.definitions.Given as goal

abbrev pub invariant-loop-item : goal.invariant-loop-item
invariant-loop-item l = record {
  trees : map view.definition_view l.definitions.items ≡ map (typed_definition l.vocab)
      (map definition_view (take l.item-index l.named));
  places : l.places.items ≡ l.initial.places.items ++ flat_map (flat_map rule_begins)
      (map definition_view (take l.item-index l.named));
  noted : l.earliest.first ≡ fold (type_noted l.vocab.types) l.initial.earliest.first
      (flat_map (flat_map (rule_type_uses l.vocab)) (map definition_view (take l.item-index l.named)));
}
