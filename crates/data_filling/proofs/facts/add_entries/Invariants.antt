use Rattle.std.proofs.Common.{map, take}
use Rattle.stage_definitions.specs.DataFacts.{facts_in}
use Rattle.structure_entries.specs.SaidViews.{said_view}
use Rattle.data_filling.specs.Filling.{Adds}
use Rattle.data_filling.proofs.facts.add_entries.Given as goal

abbrev pub invariant-loop-entry : goal.invariant-loop-entry
invariant-loop-entry l = Adds l.fn.partial l.partial (facts_in (map said_view (take l.entry-index l.entries)))
