use Rattle.std.proofs.Common.{drop, IsTrue}
use Rattle.std.specs.List.{AllByRecursion}
use Rattle.stage_definitions.specs.DataDomains as domain
use Rattle.structure_entries.specs.EntryViews.{cell_view}
use Rattle.structure_entries.specs.declared.elements.Cell.{Cell}
use Rattle.structure_reader.proofs.domains.are_in_range.Given as goal

abbrev pub invariant-loop-cell : goal.invariant-loop-cell
invariant-loop-cell l = AllByRecursion (λ (c : Cell). IsTrue (domain.is_in_range (cell_view c)))
    (drop l.cell-index l.cells) → AllByRecursion (λ (c : Cell). IsTrue (domain.is_in_range (cell_view c))) l.cells
