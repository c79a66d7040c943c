use Rattle.std.proofs.Common.{◌≡◌, ◌++◌, fold, map, take}
use Rattle.std.specs.List.{flat_map}
use Rattle.kb_logic.specs.Views as view
use Rattle.stage_definitions.specs.TermPlaces.{rule_begins}
use Rattle.stage_definitions.specs.TypedTrees.{typed_rule}
use Rattle.stage_definitions.specs.TypesStage.{rule_type_uses, type_noted}
use Rattle.stage_definitions.specs.NamedViews.{rule_view}
use Rattle.type_derivation.proofs.definitions.definition.Given as goal

abbrev pub invariant-loop-item : goal.invariant-loop-item
invariant-loop-item l = record {
  trees : map view.rule_view l.rules.items ≡ map (typed_rule l.vocab) (map rule_view (take l.item-index l.listed));
  places : l.places.items ≡ l.initial.places.items ++ flat_map rule_begins
      (map rule_view (take l.item-index l.listed));
  noted : l.earliest.first ≡ fold (type_noted l.vocab.types) l.initial.earliest.first
      (flat_map (rule_type_uses l.vocab) (map rule_view (take l.item-index l.listed)));
}
