use Rattle.std.proofs.Common.{ap, sym, map}
use Rattle.stage_definitions.specs.Typing.{types_known}
use Rattle.type_constraints.specs.PartViews.{finding_view, kind_view}
use Rattle.type_constraints.proofs.Seen.{no_side}
use Rattle.type_constraints.proofs.infer.see_side.Goals as goal

pub returns-in-Int : goal.returns-in-Int
returns-in-Int c =
    no_side c.args.types.now c.args.scope.now (kind_view c.args.side) (kind_view c.args.other)
    (map finding_view c.args.findings.now.items) (ap types_known (sym c.in-Int.ensures))

pub returns-in-Untyped : goal.returns-in-Untyped
returns-in-Untyped c =
    no_side c.args.types.now c.args.scope.now (kind_view c.args.side) (kind_view c.args.other)
    (map finding_view c.args.findings.now.items) (ap types_known (sym c.in-Untyped.ensures))
