use Rattle.std.proofs.Common.{map}
use Rattle.structure_entries.proofs.Dropped.{front}
use Rattle.structure_entries.specs.SaidViews.{said_view}
use Rattle.data_clashes.proofs.Opposable.{next_opposable}
use Rattle.data_clashes.proofs.facts.opposable_facts.Goals as goal

pub loop-entry-preserved : goal.loop-entry-preserved
loop-entry-preserved c =
    let es = c.args.entries.now in
    let i = c.loop-entry.entry-index in
    next_opposable (map said_view es) es i c.entry-item.result _ _ _
    (front es i c.entry-item.result c.loop-entry-test.true c.entry-item.is)
    (c.in_ok-add_opposable.ensures (map said_view es) c.in_ok-signs.ensures) c.loop-entry.invariant
