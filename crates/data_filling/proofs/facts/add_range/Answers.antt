use Rattle.structure_entries.specs.EntryViews.{fact_view}
use Rattle.structure_entries.specs.WholeViews.{whole_view}
use Rattle.stage_definitions.specs.Elements.{integers_from}
use Rattle.data_filling.proofs.RangeFacts.{facts_with}
use Rattle.data_filling.proofs.Unopposed.{open_number}
use Rattle.data_filling.proofs.Turns.{number_over, next_number, all_numbers}
use Rattle.data_filling.proofs.facts.add_range.Goals as goal

pub add_number-requires-clause-over : goal.add_number-requires-clause-over
add_number-requires-clause-over c =
    number_over (fact_view c.args.fact.now) (whole_view c.args.low)
    (whole_view c.args.high) c.requires.range c.args.partial.now c.loop-k.partial
    (facts_with (fact_view c.args.fact.now) (integers_from (whole_view c.args.low) c.loop-k.k)) c.loop-k.invariant
    c.requires.over c.in_ok-count.count c.loop-k.k
    c.in_ok-count.ensures.size c.loop-k-test.true

pub add_number-requires-clause-open_to : goal.add_number-requires-clause-open_to
add_number-requires-clause-open_to c =
    open_number (fact_view c.args.fact.now) (whole_view c.args.low)
    (whole_view c.args.high) c.requires.range c.args.partial.now c.loop-k.partial
    c.in_ok-count.count c.loop-k.k c.in_ok-count.ensures.size c.loop-k-test.true c.loop-k.invariant c.requires.open_to

pub loop-k-preserved : goal.loop-k-preserved
loop-k-preserved c =
    next_number (fact_view c.args.fact.now) (whole_view c.args.low)
    (whole_view c.args.high) c.requires.range c.args.partial.now c.loop-k.partial c.add_number.new.partial
    c.loop-k.k c.loop-k.invariant c.in_ok-add_number.ensures

pub returns : goal.returns
returns c =
    all_numbers (fact_view c.args.fact.now) (whole_view c.args.low)
    (whole_view c.args.high) c.requires.range c.args.partial.now c.loop-k.partial
    c.in_ok-count.count c.loop-k.k c.in_ok-count.ensures.size c.loop-k-test.false c.loop-k.auto.k-end c.loop-k.invariant
