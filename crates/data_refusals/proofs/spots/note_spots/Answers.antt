use Rattle.std.proofs.Common.{[], ◌∷◌, map, refl, List}
use Rattle.stage_definitions.specs.DataStage as stage
use Rattle.structure_entries.specs.EntryViews.{spot_view}
use Rattle.structure_entries.specs.declared.spots.Spot.{Spot}
use Rattle.data_refusals.proofs.Noting.{next_by}
use Rattle.data_refusals.proofs.spots.note_spots.Goals as goal

pub loop-i-preserved : goal.loop-i-preserved
loop-i-preserved c = λ all es h.
    next_by (stage.data_noted all es) (λ (ss : List Spot). map (λ w. stage.spot w) (map spot_view ss)) c.args.spots.now
    c.loop-i.i c.index-spots-i.result (stage.spot (spot_view c.index-spots-i.result) ∷ [])
    c.loop-i.earliest.first _ _ c.loop-i-test.true c.index-spots-i.is refl
    (c.note_spot.ensures all es h) (c.loop-i.invariant all es h)
