use Rattle.std.proofs.Common.{◌≡◌, ◌++◌, List, drop, map}
use Rattle.std.specs.List.{filter_map}
use Rattle.stage_definitions.specs.Elements.{Cell}
use Rattle.stage_definitions.specs.DataEntries.{Spot}
use Rattle.structure_entries.specs.EntryViews.{spot_view}
use Rattle.data_domains.specs.Shares.{Takes}
use Rattle.data_domains.proofs.filling.add_written.Given as goal

abbrev pub invariant-loop-spot : goal.invariant-loop-spot
invariant-loop-spot l = (before : List Cell) × Takes l.fn.data l.data before
    × (before ++ filter_map (λ (s : Spot). s.cell) (map spot_view (drop l.spot-index l.spots))
    ≡ filter_map (λ (s : Spot). s.cell) (map spot_view l.spots))
