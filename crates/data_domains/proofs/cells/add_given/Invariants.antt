use Rattle.std.proofs.Common.{◌≡◌, ◌++◌, drop, map}
use Rattle.std.specs.List.{filter_map}
use Rattle.stage_definitions.specs.DataEntries.{Spot}
use Rattle.stage_definitions.specs.DataDomains.{cells_given}
use Rattle.structure_entries.specs.EntryViews.{cell_view, row_view, spots_in, subject_view}
use Rattle.structure_entries.specs.SaidViews.{said_view}
use Rattle.data_domains.proofs.cells.add_given.Given as goal

abbrev pub invariant-loop-row : goal.invariant-loop-row
invariant-loop-row l = map cell_view l.cells.items ++ filter_map (λ (s : Spot). s.cell)
    (spots_in (subject_view l.entry.subject) (map row_view (drop l.row-index l.entry.rows.items)))
    ≡ map cell_view l.fn.cells.items ++ cells_given (said_view l.entry)
