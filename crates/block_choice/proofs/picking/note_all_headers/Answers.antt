use Rattle.stage_definitions.proofs.Headers.{noted_headers}
use Rattle.block_choice.proofs.picking.note_all_headers.Goals as goal

pub returns : goal.returns
returns c =
    noted_headers c.args.raw.now c.args.earliest.now.first c.note_headers.new.earliest.first
    c.note_headers-2.new.earliest.first c.note_headers-3.new.earliest.first
    c.as_slice.result.now c.as_slice-2.result.now c.as_slice-3.result.now c.as_slice.ensures c.as_slice-2.ensures
    c.as_slice-3.ensures
    c.note_headers.ensures c.note_headers-2.ensures c.note_headers-3.ensures
