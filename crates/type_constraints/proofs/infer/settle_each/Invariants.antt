use Rattle.std.proofs.Common.{◌≡◌, ◌++◌, drop, map}
use Rattle.type_constraints.specs.Gathering.{settled_from}
use Rattle.type_constraints.specs.PartViews.{binding_view, finding_view}
use Rattle.type_constraints.proofs.infer.settle_each.Given as goal

abbrev pub invariant-loop-i : goal.invariant-loop-i
invariant-loop-i l =
    map binding_view l.settled.items ++ settled_from (map binding_view (drop l.i l.bindings))
    (map finding_view (drop l.i l.found))
    ≡ settled_from (map binding_view l.bindings) (map finding_view l.found)
