use Rattle.structure_entries.specs.SaidViews.{said_view}
use Rattle.data_filling.proofs.Turns.{subject_after}
use Rattle.data_filling.proofs.closing.close_entries.Goals as goal

pub close_entry-requires : goal.close_entry-requires
close_entry-requires c =
    subject_after said_view c.args.partial.now c.loop-entry.partial _ c.loop-entry.invariant c.args.entries.now
    c.loop-entry.entry-index c.entry-item.result
    c.loop-entry-test.true c.entry-item.is c.requires
