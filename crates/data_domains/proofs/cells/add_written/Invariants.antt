use Rattle.std.proofs.Common.{◌≡◌, ◌++◌, drop, map}
use Rattle.std.specs.List.{filter_map}
use Rattle.stage_definitions.specs.DataEntries.{Spot}
use Rattle.structure_entries.specs.EntryViews.{cell_view, spot_view}
use Rattle.data_domains.proofs.cells.add_written.Given as goal

abbrev pub invariant-loop-spot : goal.invariant-loop-spot
invariant-loop-spot l = map cell_view l.cells.items ++ filter_map (λ (s : Spot). s.cell)
    (map spot_view (drop l.spot-index l.spots))
    ≡ map cell_view l.fn.cells.items ++ filter_map (λ (s : Spot). s.cell) (map spot_view l.spots)
