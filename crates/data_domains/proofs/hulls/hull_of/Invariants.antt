use Rattle.std.proofs.Common.{◌≡◌, drop, fold, map}
use Rattle.std.specs.List.{flat_map}
use Rattle.stage_definitions.specs.Elements.{intervals_in}
use Rattle.structure_entries.specs.EntryViews.{cell_view}
use Rattle.data_domains.specs.Listings.{hull_of, reach}
use Rattle.data_domains.specs.Sets.{interval_view}
use Rattle.data_domains.proofs.hulls.hull_of.Given as goal

abbrev pub invariant-loop-cell : goal.invariant-loop-cell
invariant-loop-cell l =
    fold reach (interval_view l.hull) (flat_map intervals_in (map cell_view (drop l.cell-index l.cells)))
    ≡ hull_of (map cell_view l.cells)
