use Rattle.std.proofs.Common.{[], ◌∷◌, map, refl, List}
use Rattle.stage_definitions.specs.DataStage as stage
use Rattle.structure_entries.specs.EntryViews.{row_view, subject_view}
use Rattle.structure_entries.specs.declared.rows.Row.{Row}
use Rattle.data_refusals.proofs.Noting.{next_by}
use Rattle.data_refusals.proofs.entries.note_rows.Goals as goal

pub loop-row-preserved : goal.loop-row-preserved
loop-row-preserved c = λ all es.
    let x = subject_view c.args.subject in
    next_by (stage.data_noted all es) (λ (rs : List Row). map (λ w. stage.row x w) (map row_view rs)) c.args.rows.now
    c.loop-row.row-index c.row-item.result
    (stage.row x (row_view c.row-item.result) ∷ []) c.loop-row.earliest.first _ _ c.loop-row-test.true c.row-item.is
    refl (c.note_row.ensures all es) (c.loop-row.invariant all es)
