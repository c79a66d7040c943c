use Rattle.std.proofs.Common.{◌≡◌, ◌++◌, drop, map}
use Rattle.structure_entries.specs.EntryViews.{cell_view}
use Rattle.data_clashes.proofs.runs.Run.add_against.Given as goal

abbrev pub invariant-loop-cell : goal.invariant-loop-cell
invariant-loop-cell l =
    map cell_view l.cells.items ++ map cell_view (drop l.cell-index l.self.cells.items)
    ≡ map cell_view l.fn.cells.items ++ map cell_view l.self.cells.items
