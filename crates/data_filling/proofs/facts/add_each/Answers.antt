use Rattle.structure_entries.specs.EntryViews.{fact_view}
use Rattle.data_filling.proofs.Turns.{fact_after}
use Rattle.data_filling.proofs.Unopposed.{open_at}
use Rattle.data_filling.proofs.facts.add_each.Goals as goal

pub add_fact-requires-clause-over : goal.add_fact-requires-clause-over
add_fact-requires-clause-over c =
    fact_after fact_view c.args.partial.now c.loop-fact.partial _ c.loop-fact.invariant c.args.facts.now
    c.loop-fact.fact-index
    c.fact-item.result c.loop-fact-test.true c.fact-item.is c.requires.over

pub add_fact-requires-clause-open_to : goal.add_fact-requires-clause-open_to
add_fact-requires-clause-open_to c =
    open_at fact_view c.args.partial.now c.loop-fact.partial c.args.facts.now c.loop-fact.fact-index c.fact-item.result
    c.loop-fact-test.true c.fact-item.is c.loop-fact.invariant c.requires.open_to
