use Rattle.std.proofs.Common.{◌≡◌, ◌++◌, drop, map}
use Rattle.stage_definitions.specs.DataFacts.{facts_in}
use Rattle.structure_entries.specs.EntryViews.{fact_view}
use Rattle.structure_entries.specs.SaidViews.{said_view}
use Rattle.data_clashes.specs.Signs.{opposable}
use Rattle.data_clashes.proofs.facts.opposable_facts.Given as goal

abbrev pub invariant-loop-entry : goal.invariant-loop-entry
invariant-loop-entry l =
    map fact_view l.facts.items
    ++ facts_in (opposable (map said_view l.entries) (map said_view (drop l.entry-index l.entries)))
    ≡ facts_in (opposable (map said_view l.entries) (map said_view l.entries))
