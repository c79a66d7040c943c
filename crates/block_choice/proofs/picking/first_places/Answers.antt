use Rattle.std.proofs.Common.{[]}
use Rattle.block_choice.proofs.Placing.{all_places}
use Rattle.block_choice.proofs.picking.first_places.Goals as goal

pub returns : goal.returns
returns c =
    all_places c.args.raw.now c.note_places-3.new.first
    (rw (c.as_slice.ensures, c.as_slice-2.ensures, c.as_slice-3.ensures) at
    (c.in_ok-note_places-3.ensures _ (c.in_ok-note_places-2.ensures _
    (c.in_ok-note_places.ensures [] c.no_places-first.ensures))))
