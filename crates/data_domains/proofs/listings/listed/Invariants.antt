use Rattle.std.proofs.Common.{◌≡◌, ◌+ℤ◌, ◌≤ℤ◌, pos, negsuc, drop, fold, map, length}
use Rattle.std.specs.List.{flat_map, AllByRecursion}
use Rattle.stage_definitions.specs.Elements as set
use Rattle.structure_entries.specs.EntryViews.{cell_view}
use Rattle.data_domains.specs.Listings.{HasPlaces, IsListing}
use Rattle.data_domains.proofs.listings.listed.Given as goal

abbrev pub invariant-loop-cell : goal.invariant-loop-cell
invariant-loop-cell l = record {
  listing : IsListing l.listing;
  range : (l.listing.base +ℤ pos (length l.listing.ahead.items)) ≤ℤ pos 1000001;
  low : negsuc 999999 ≤ℤ l.listing.base;
  places : AllByRecursion (HasPlaces l.listing.base (length l.listing.ahead.items))
      (map cell_view (drop l.cell-index l.cells));
  elems : fold set.with_element l.listing.elems (flat_map set.members (map cell_view (drop l.cell-index l.cells)))
      ≡ set.listed (map cell_view l.cells);
}
