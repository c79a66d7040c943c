use Rattle.std.proofs.Common.{◌≡◌, List, drop, map}
use Rattle.std.specs.List.{list_all}
use Rattle.stage_definitions.specs.Elements as set
use Rattle.structure_entries.specs.EntryViews.{cell_view}
use Rattle.data_domains.specs.Sets.{IsSetOf}
use Rattle.data_refusals.proofs.entries.are_covered.Given as goal

abbrev pub invariant-loop-cell : goal.invariant-loop-cell
invariant-loop-cell l = (others : List set.Cell) → IsSetOf others l.elements
    → list_all (set.is_covered others) (map cell_view (drop l.cell-index l.cells)) ≡ list_all (set.is_covered others)
    (map cell_view l.cells)
