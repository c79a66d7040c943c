use Rattle.std.proofs.Common.{◌≡◌, ◌++◌, fold, map, take}
use Rattle.std.specs.List.{flat_map}
use Rattle.stage_definitions.specs.TypedFiles.{theory_begins, typed_theory}
use Rattle.stage_definitions.specs.TypesStage as stage
use Rattle.stage_definitions.specs.TypesStage.{type_noted}
use Rattle.stage_definitions.specs.FileViews as named_view
use Rattle.type_derivation.specs.TypedViews.{named_theory_view}
use Rattle.type_derivation.proofs.files.theories.Given as goal

abbrev pub invariant-loop-item : goal.invariant-loop-item
invariant-loop-item l = record {
  theories : map named_theory_view l.theories.items ≡ map (typed_theory l.vocab)
      (map named_view.theory_view (take l.item-index l.named));
  terms : l.terms.items ≡ l.initial.terms.items ++ map theory_begins
      (map named_view.theory_view (take l.item-index l.named));
  noted : l.earliest.first ≡ fold (type_noted l.vocab.types) l.initial.earliest.first
      (flat_map (λ t. flat_map (stage.sentence_type_uses l.vocab) t.sentences
      ++ flat_map (flat_map (stage.rule_type_uses l.vocab)) t.definitions)
      (map named_view.theory_view (take l.item-index l.named)));
}
