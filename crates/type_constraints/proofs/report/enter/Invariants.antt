use Rattle.std.proofs.Common.{◌≡◌, ◌++◌, fold, map, take}
use Rattle.stage_definitions.specs.TypedTrees.{chosen}
use Rattle.stage_definitions.specs.TypesStage as stage
use Rattle.stage_definitions.specs.TypesStage.{type_noted}
use Rattle.stage_definitions.specs.Typing as typing
use Rattle.type_constraints.specs.PartViews.{binding_view}
use Rattle.type_constraints.proofs.report.enter.Given as goal

abbrev pub invariant-loop-binding : goal.invariant-loop-binding
invariant-loop-binding l = record {
  scope : l.scope.items ≡ typing.within l.initial.scope.items (map binding_view (take l.binding-index l.bindings));
  listed : l.listed.items ≡ l.initial.listed.items ++ map (λ b. chosen b.finding)
      (map binding_view (take l.binding-index l.bindings));
  noted : l.earliest.first ≡ fold (type_noted l.types) l.initial.earliest.first
      (map stage.binding (map binding_view (take l.binding-index l.bindings)));
}
