use Rattle.std.proofs.Common.{◌≡◌, ◌++◌, drop, map}
use Rattle.stage_definitions.specs.Elements.{one}
use Rattle.structure_entries.specs.EntryViews.{cell_view}
use Rattle.data_filling.proofs.elements.elems_of.Given as goal

abbrev pub invariant-loop-cell : goal.invariant-loop-cell
invariant-loop-cell l = map (λ x. one x) l.elems ++ map cell_view (drop l.cell-index l.cells) ≡ map cell_view l.cells
