use Rattle.structure_entries.specs.SaidViews.{said_view}
use Rattle.data_filling.proofs.Turns.{facts_after}
use Rattle.data_filling.proofs.Unopposed.{open_within}
use Rattle.data_filling.proofs.facts.add_entries.Goals as goal

pub add_entry-requires-clause-over : goal.add_entry-requires-clause-over
add_entry-requires-clause-over c =
    facts_after said_view c.args.partial.now c.loop-entry.partial _ c.loop-entry.invariant c.args.entries.now
    c.loop-entry.entry-index
    c.entry-item.result c.loop-entry-test.true c.entry-item.is c.requires.over

pub add_entry-requires-clause-open_to : goal.add_entry-requires-clause-open_to
add_entry-requires-clause-open_to c =
    open_within said_view c.args.partial.now c.loop-entry.partial c.args.entries.now c.loop-entry.entry-index
    c.entry-item.result
    c.loop-entry-test.true c.entry-item.is c.loop-entry.invariant c.requires.open_to
