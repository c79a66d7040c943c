use Rattle.std.proofs.Common.{◌∙◌, fold, map, ap}
use Rattle.std.proofs.lemmas.Result.{on_ok_weaker}
use Rattle.stage_definitions.specs.DataEntries.{spots_of}
use Rattle.stage_definitions.specs.DataStage as stage
use Rattle.structure_entries.specs.EntryViews.{row_view}
use Rattle.structure_entries.specs.SaidViews.{said_view}
use Rattle.data_refusals.proofs.Noting.{four_parts}
use Rattle.data_refusals.proofs.entries.note_whole.Goals as goal

pub returns : goal.returns
returns c = on_ok_weaker c.note_written.result (λ written all es h.
    let note = stage.data_noted all es in
    let e = said_view c.args.entry.now in
    four_parts note (stage.entry (map said_view c.args.before.now) e) (stage.mark_uses e.subject e.mark)
    (map (stage.row e.subject) e.rows) (map stage.spot (spots_of e))
    c.args.earliest.now.first c.note_entry.new.earliest.first c.note_mark.new.earliest.first
    c.note_rows.new.earliest.first _
    (c.in_ok-note_entry.ensures all es h) (c.note_mark.ensures all es)
    (c.note_rows.ensures all es ∙ ap (λ rs. fold note c.note_mark.new.earliest.first
    (map (stage.row e.subject) (map row_view rs))) c.deref.ensures.value)
    (written all es h)) c.note_written.ensures
