use Rattle.std.proofs.Common.{◌≡◌, map, take}
use Rattle.stage_definitions.specs.Demands.{binding_of}
use Rattle.stage_definitions.specs.NamedViews.{var_view}
use Rattle.type_constraints.specs.PartViews.{binding_view}
use Rattle.type_constraints.proofs.collect.bindings.Given as goal

abbrev pub invariant-loop-var : goal.invariant-loop-var
invariant-loop-var l = map binding_view l.bindings.items ≡ map binding_of (map var_view (take l.var-index l.vars))
