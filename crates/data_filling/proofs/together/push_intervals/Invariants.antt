use Rattle.std.proofs.Common.{◌≡◌, ◌++◌, drop, map}
use Rattle.stage_definitions.specs.Elements.{span}
use Rattle.structure_entries.specs.EntryViews.{fact_view}
use Rattle.data_domains.specs.Sets.{interval_view}
use Rattle.data_filling.specs.Together.{facts_over}
use Rattle.data_filling.proofs.together.push_intervals.Given as goal

abbrev pub invariant-loop-interval : goal.invariant-loop-interval
invariant-loop-interval l =
    map fact_view l.facts.items
    ++ facts_over l.symbol l.holds
    (map (λ i. span (interval_view i).low (interval_view i).high) (drop l.interval-index l.intervals))
    ≡ map fact_view l.fn.facts.items
    ++ facts_over l.symbol l.holds
    (map (λ i. span (interval_view i).low (interval_view i).high) l.intervals)
