use Rattle.std.proofs.Common.{ap, sym, ◌∙◌}
use Rattle.stage_definitions.specs.Typing.{side_given}
use Rattle.type_constraints.specs.Gathering.{after}
use Rattle.type_constraints.specs.PartViews.{kind_view}
use Rattle.type_constraints.proofs.Seen.{after-nothing, after-append}
use Rattle.type_constraints.proofs.infer.see_demand.Goals as goal

pub returns-in-Number : goal.returns-in-Number
returns-in-Number c = rw (c.in-Places.is, c.in-Number.is) (after-nothing c.args.types.now _)

pub returns-in-Sides-demand : goal.returns-in-Sides-demand
returns-in-Sides-demand c = rw (c.in-Places.is, c.in-Sides-demand.is) (after-nothing c.args.types.now _)

pub returns-in-Number-demand : goal.returns-in-Number-demand
returns-in-Number-demand c = rw (c.in-Sides.is, c.in-Number-demand.is) (after-nothing c.args.types.now _)

pub returns-in-OfPredicate-demand : goal.returns-in-OfPredicate-demand
returns-in-OfPredicate-demand c = rw (c.in-Sides.is, c.in-OfPredicate-demand.is) (after-nothing c.args.types.now _)

pub returns-in-OfFunction-demand : goal.returns-in-OfFunction-demand
returns-in-OfFunction-demand c = rw (c.in-Sides.is, c.in-OfFunction-demand.is) (after-nothing c.args.types.now _)

pub returns-in-OfHead-demand : goal.returns-in-OfHead-demand
returns-in-OfHead-demand c = rw (c.in-Sides.is, c.in-OfHead-demand.is) (after-nothing c.args.types.now _)

pub returns-in-Sides-demand-2 : goal.returns-in-Sides-demand-2
returns-in-Sides-demand-2 c =
    rw (c.in-Sides.is, c.in-Sides-demand-2.is)
    (c.see_side-in-Sides-demand-2.ensures
    ∙ ap (after c.args.types.now (λ n. side_given c.args.scope.now n (kind_view c.in-Sides-demand-2.right)
    (kind_view c.in-Sides-demand-2.left)) 0) c.see_side.ensures
    ∙ sym (after-append c.args.types.now (λ n. side_given c.args.scope.now n (kind_view c.in-Sides-demand-2.left)
    (kind_view c.in-Sides-demand-2.right)) (λ n. side_given c.args.scope.now n (kind_view c.in-Sides-demand-2.right)
    (kind_view c.in-Sides-demand-2.left)) 0 _))
