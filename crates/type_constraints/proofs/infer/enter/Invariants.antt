use Rattle.std.proofs.Common.{◌≡◌, ◌++◌, map, replicate, take}
use Rattle.stage_definitions.specs.Demands as said
use Rattle.stage_definitions.specs.Typing as typing
use Rattle.type_constraints.specs.PartViews.{binding_view, finding_view}
use Rattle.type_constraints.proofs.infer.enter.Given as goal

abbrev pub invariant-loop-binding : goal.invariant-loop-binding
invariant-loop-binding l = record {
  scope : l.scope.items ≡ typing.within l.initial.scope.items (map binding_view (take l.binding-index l.bindings));
  findings : map finding_view l.findings.items ≡ map finding_view l.initial.findings.items ++ replicate l.binding-index
      said.nothing;
}
