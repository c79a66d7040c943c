use Rattle.std.proofs.Common.{◌≡◌, List, drop, fold, map}
use Rattle.kb_logic.specs.declared.vocabularies.TypeDecl.{TypeDecl}
use Rattle.stage_definitions.specs.DataEntries.{Said, spots_of}
use Rattle.stage_definitions.specs.DataStage as stage
use Rattle.structure_entries.specs.EntryViews.{row_view, spots_in, subject_view}
use Rattle.structure_entries.specs.SaidViews.{said_view}
use Rattle.data_domains.specs.TypeSets.{AreTypesOf}
use Rattle.data_refusals.proofs.spots.note_written.Given as goal

abbrev pub invariant-loop-row : goal.invariant-loop-row
invariant-loop-row l = (all : List TypeDecl) (es : List Said) → AreTypesOf all es l.types
    → fold (stage.data_noted all es) l.earliest.first (map stage.spot
    (spots_in (subject_view l.entry.subject) (map row_view (drop l.row-index l.entry.rows.items))))
    ≡ fold (stage.data_noted all es) l.fn.earliest.first (map stage.spot (spots_of (said_view l.entry)))
