use Rattle.std.proofs.Common.{map, take}
use Rattle.structure_entries.specs.EntryViews.{fact_view}
use Rattle.data_filling.specs.Filling.{Adds}
use Rattle.data_filling.proofs.facts.add_each.Given as goal

abbrev pub invariant-loop-fact : goal.invariant-loop-fact
invariant-loop-fact l = Adds l.fn.partial l.partial (map fact_view (take l.fact-index l.facts))
