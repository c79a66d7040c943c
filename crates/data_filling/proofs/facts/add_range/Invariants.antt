use Rattle.structure_entries.specs.EntryViews.{fact_view}
use Rattle.structure_entries.specs.WholeViews.{whole_view}
use Rattle.stage_definitions.specs.Elements.{integers_from}
use Rattle.data_filling.specs.Filling.{Adds}
use Rattle.data_filling.proofs.RangeFacts.{facts_with}
use Rattle.data_filling.proofs.facts.add_range.Given as goal

abbrev pub invariant-loop-k : goal.invariant-loop-k
invariant-loop-k l = Adds l.fn.partial l.partial (facts_with (fact_view l.fact) (integers_from (whole_view l.low) l.k))
