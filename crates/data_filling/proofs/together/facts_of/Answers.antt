use Rattle.std.proofs.Common.{map, ap}
use Rattle.structure_entries.specs.EntryViews.{fact_view}
use Rattle.data_filling.proofs.TogetherFacts.{set_facts}
use Rattle.data_filling.proofs.together.facts_of.Goals as goal

pub returns : goal.returns
returns c = set_facts c.args.symbol c.args.holds c.args.elements.now c.as_slice.result.now c.deref.result.now
    (map fact_view c.new-facts.result.items) (map fact_view c.push_words.new.facts.items)
    (map fact_view c.push_intervals.new.facts.items) (ap (map fact_view) c.new-facts.ensures.items)
    c.as_slice.ensures.keys c.deref.ensures.value c.in_ok-push_words.ensures c.in_ok-push_intervals.ensures
