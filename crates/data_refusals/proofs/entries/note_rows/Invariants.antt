use Rattle.std.proofs.Common.{◌≡◌, List, drop, fold, map}
use Rattle.kb_logic.specs.declared.vocabularies.TypeDecl.{TypeDecl}
use Rattle.stage_definitions.specs.DataEntries.{Said}
use Rattle.stage_definitions.specs.DataStage as stage
use Rattle.structure_entries.specs.EntryViews.{row_view, subject_view}
use Rattle.data_refusals.proofs.entries.note_rows.Given as goal

abbrev pub invariant-loop-row : goal.invariant-loop-row
invariant-loop-row l = (all : List TypeDecl) (es : List Said)
    → fold (stage.data_noted all es) l.earliest.first (map (stage.row (subject_view l.subject))
    (map row_view (drop l.row-index l.rows)))
    ≡ fold (stage.data_noted all es) l.fn.earliest.first (map (stage.row (subject_view l.subject))
    (map row_view l.rows))
