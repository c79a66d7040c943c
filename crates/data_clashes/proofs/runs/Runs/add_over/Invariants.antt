use Rattle.std.proofs.Common.{◌≡◌, ◌++◌, drop, flat_map, map}
use Rattle.structure_entries.specs.EntryViews.{cell_view}
use Rattle.data_clashes.specs.RunViews.{run_against}
use Rattle.data_clashes.proofs.runs.Runs.add_over.Given as goal

abbrev pub invariant-loop-run : goal.invariant-loop-run
invariant-loop-run l =
    map cell_view l.cells.items ++ flat_map (run_against l.symbol l.holds) (drop l.run-index l.self.over.items)
    ≡ map cell_view l.fn.cells.items ++ flat_map (run_against l.symbol l.holds) l.self.over.items
