use Rattle.std.proofs.Common.{◌≡◌, ◌++◌, drop, fold}
use Rattle.stage_definitions.specs.TypesStage as stage
use Rattle.stage_definitions.specs.TypesStage.{type_noted}
use Rattle.type_constraints.specs.ChosenTypes.{types_among}
use Rattle.type_constraints.specs.PartViews.{parts_view}
use Rattle.type_constraints.proofs.report.+note.Given as goal

abbrev pub invariant-note_parts-loop-part : goal.invariant-note_parts-loop-part
invariant-note_parts-loop-part l = record {
  scope : l.scope.items ≡ l.initial.scope.items;
  listed : l.listed.items ++ types_among (parts_view (drop l.part-index l.parts)) ≡ l.initial.listed.items
      ++ types_among (parts_view l.parts);
  noted : fold (type_noted l.types) l.earliest.first (stage.uses_among l.initial.scope.items
      (parts_view (drop l.part-index l.parts)))
      ≡ fold (type_noted l.types) l.initial.earliest.first (stage.uses_among l.initial.scope.items
      (parts_view l.parts));
}
