use Rattle.std.proofs.Common.{◌∙◌, fold, map, ap}
use Rattle.stage_definitions.specs.DataStage as stage
use Rattle.stage_definitions.specs.IntegerArguments.{arguments_at}
use Rattle.data_refusals.specs.PlacedViews.{placed_views}
use Rattle.data_refusals.proofs.arguments.note_items.Goals as goal

pub returns : goal.returns
returns c = λ all es h.
    c.note_placed.ensures all es h ∙ ap (λ xs. fold (stage.data_noted all es) c.args.earliest.now.first
    (map stage.argument (arguments_at c.args.places.now xs))) (ap placed_views c.deref.ensures.value
    ∙ c.in_ok-found.ensures)
