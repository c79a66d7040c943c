use Rattle.std.proofs.Common.{◌≡◌, ◌++◌, [], fold, map, take}
use Rattle.std.specs.List.{flat_map}
use Rattle.stage_definitions.specs.TermPlaces.{term_begins}
use Rattle.stage_definitions.specs.TypedFiles.{typed_block}
use Rattle.stage_definitions.specs.TypesStage as stage
use Rattle.stage_definitions.specs.TypesStage.{type_noted}
use Rattle.stage_definitions.specs.FileViews as named_view
use Rattle.type_derivation.specs.TypedViews.{named_term_view}
use Rattle.type_derivation.proofs.files.blocks.Given as goal

abbrev pub invariant-loop-item : goal.invariant-loop-item
invariant-loop-item l = record {
  blocks : map named_term_view l.blocks.items ≡ map (typed_block l.vocab)
      (map named_view.block_view (take l.item-index l.named));
  terms : l.terms.items ≡ l.initial.terms.items ++ map (λ t. term_begins t.term)
      (map named_view.block_view (take l.item-index l.named));
  noted : l.earliest.first ≡ fold (type_noted l.vocab.types) l.initial.earliest.first
      (flat_map (λ t. stage.uses_among [] (stage.block_settled l.vocab t.term))
      (map named_view.block_view (take l.item-index l.named)));
}
