use Rattle.std.proofs.Common.{◌∙◌, ap, List, [], Option, ℕ}
use Rattle.type_constraints.specs.Gathering.{parts_by}
use Rattle.type_constraints.specs.PartViews.{parts_view}
use Rattle.type_constraints.specs.declared.constraints.Part.{Part}
use Rattle.type_constraints.specs.declared.infer.Source.TheVariants.{Places, Sides}
use Rattle.type_constraints.proofs.Settled.{settled_twice}
use Rattle.type_constraints.proofs.infer.settle_all.Goals as goal

pub returns : goal.returns
returns c =
    settled_twice c.args.types.now (parts_view c.args.listed.now) (parts_view c.in_ok-placed.placed.items)
    (parts_view c.in_ok-settled.settled.items)
    (c.in_ok-placed.ensures.parts ∙ ap (λ (sc : List (Option ℕ)). parts_by Places c.args.types.now sc
    (parts_view c.args.listed.now)) c.new-scope.ensures.items)
    (c.in_ok-settled.ensures.parts ∙ ap (λ (sc : List (Option ℕ)). parts_by Sides c.args.types.now sc
    (parts_view c.deref.result.now)) c.new-scope-2.ensures.items
    ∙ ap (λ (ps : List Part). parts_by Sides c.args.types.now [] (parts_view ps)) c.deref.ensures.value)
