use Rattle.std.proofs.Common.{◌≡◌, ◌++◌, List, drop, map}
use Rattle.std.specs.List.{filter_map}
use Rattle.stage_definitions.specs.Elements.{Cell}
use Rattle.stage_definitions.specs.DataEntries.{Spot}
use Rattle.stage_definitions.specs.DataDomains.{cells_given}
use Rattle.structure_entries.specs.EntryViews.{row_view, spots_in, subject_view}
use Rattle.structure_entries.specs.SaidViews.{said_view}
use Rattle.data_domains.specs.Shares.{Takes}
use Rattle.data_domains.proofs.filling.add_whole.Given as goal

abbrev pub invariant-loop-row : goal.invariant-loop-row
invariant-loop-row l = (before : List Cell) × Takes l.fn.data l.data before
    × (before ++ filter_map (λ (s : Spot). s.cell)
    (spots_in (subject_view l.entry.subject) (map row_view (drop l.row-index l.entry.rows.items)))
    ≡ cells_given (said_view l.entry))
