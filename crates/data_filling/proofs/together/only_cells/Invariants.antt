use Rattle.std.proofs.Common.{◌≡◌, map, take}
use Rattle.structure_entries.specs.EntryViews.{cell_view, fact_view}
use Rattle.data_filling.specs.Together.{facts_over, placeless}
use Rattle.data_filling.proofs.together.only_cells.Given as goal

abbrev pub invariant-loop-fact : goal.invariant-loop-fact
invariant-loop-fact l = map placeless (map fact_view (take l.fact-index l.facts))
    ≡ facts_over l.symbol l.holds (map cell_view l.cells.items)
