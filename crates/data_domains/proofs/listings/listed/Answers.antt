use Rattle.std.proofs.Common.{arith}
use Rattle.std.proofs.lemmas.Grind.{common_steps}
use Rattle.std.proofs.Common.{◌≡◌, ◌+ℤ◌, ◌≤ℤ◌, ◌+◌, pos, negsuc, drop, fold, map, length, sym, ap, subst}
use Rattle.std.specs.List.{flat_map, AllByRecursion}
use Rattle.std.proofs.lemmas.List.{drop_more}
use Rattle.kb_logic.specs.Bounds.{Interval}
use Rattle.stage_definitions.specs.Elements as set
use Rattle.structure_entries.specs.EntryViews.{cell_view}
use Rattle.data_domains.specs.Listings.{HasPlaces}
use Rattle.data_domains.specs.Sets.{interval_view}
use Rattle.data_domains.proofs.HullFacts.{all_placed, end_small, is_small, next_listed_cell, parted, size_small}
use Rattle.data_domains.proofs.listings.listed.Goals as goal

pub new-requires-clause-low : goal.new-requires-clause-low
new-requires-clause-low c = (is_small c.args.cells.now (interval_view c.hull_of.result) c.requires
    c.hull_of.ensures).low_from

pub new-requires-clause-high : goal.new-requires-clause-high
new-requires-clause-high c = (is_small c.args.cells.now (interval_view c.hull_of.result) c.requires
    c.hull_of.ensures).low_to

pub new-requires-clause-size : goal.new-requires-clause-size
new-requires-clause-size c = size_small (interval_view c.hull_of.result)
    (is_small c.args.cells.now (interval_view c.hull_of.result) c.requires c.hull_of.ensures)

pub loop-cell-init : goal.loop-cell-init
loop-cell-init c =
    let h = interval_view c.hull_of.result in
    let new = c.in_ok-listing.listing in
    let low : new.base ≡ h.low = c.in_ok-listing.ensures.base in
    let count : length new.ahead.items ≡ set.size_of h = c.in_ok-listing.ensures.count in
    record {
      listing = c.in_ok-listing.ensures.listing;
      range = subst (λ z. (z +ℤ pos (length new.ahead.items)) ≤ℤ pos 1000001) (sym low)
          (subst (λ n. (h.low +ℤ pos n) ≤ℤ pos 1000001) (sym count)
          (end_small h (is_small c.args.cells.now (interval_view c.hull_of.result) c.requires c.hull_of.ensures)));
      low = subst (λ z. negsuc 999999 ≤ℤ z) (sym low) (is_small c.args.cells.now (interval_view c.hull_of.result)
          c.requires c.hull_of.ensures).low_from;
      places = subst (λ z. AllByRecursion (HasPlaces z (length new.ahead.items)) (map cell_view c.args.cells.now))
          (sym low)
          (subst (λ n. AllByRecursion (HasPlaces h.low n) (map cell_view c.args.cells.now)) (sym count)
          (subst (λ (g : Interval). AllByRecursion (HasPlaces g.low (set.size_of g)) (map cell_view c.args.cells.now))
          (sym c.hull_of.ensures) (all_placed (map cell_view c.args.cells.now))));
      elems = ap (λ xs. fold set.with_element xs (flat_map set.members (map cell_view c.args.cells.now)))
          c.in_ok-listing.ensures.elems;
    }

pub add_cell-requires-clause-places : goal.add_cell-requires-clause-places
add_cell-requires-clause-places c =
    let s = c.loop-cell.listing in
    (parted (HasPlaces s.base (length s.ahead.items)) cell_view _ (drop c.loop-cell.cell-index c.args.cells.now)
    (drop (c.loop-cell.cell-index + 1) c.args.cells.now)
    (drop_more c.args.cells.now c.loop-cell.cell-index _ c.loop-cell-test.true) c.loop-cell.invariant.places).0

pub loop-cell-preserved : goal.loop-cell-preserved
loop-cell-preserved c =
    let s = c.loop-cell.listing in
    let new = c.add_cell.new.listing in
    let xs = c.args.cells.now in
    let i = c.loop-cell.cell-index in
    let base : new.base ≡ s.base = c.in_ok-add_cell.ensures.base in
    let count : length new.ahead.items ≡ length s.ahead.items = c.in_ok-add_cell.ensures.count in
    let more = next_listed_cell (HasPlaces s.base (length s.ahead.items)) s.elems new.elems
    (set.listed (map cell_view c.args.cells.now)) xs i _
    c.in_ok-add_cell.ensures.elems (drop_more xs i _ c.loop-cell-test.true) c.loop-cell.invariant.places
    c.loop-cell.invariant.elems in
    record {
      listing = c.in_ok-add_cell.ensures.listing;
      range = subst (λ z. (z +ℤ pos (length new.ahead.items)) ≤ℤ pos 1000001) (sym base)
          (subst (λ n. (s.base +ℤ pos n) ≤ℤ pos 1000001) (sym count) c.loop-cell.invariant.range);
      low = subst (λ z. negsuc 999999 ≤ℤ z) (sym base) c.loop-cell.invariant.low;
      places = subst (λ z. AllByRecursion (HasPlaces z (length new.ahead.items)) (map cell_view (drop (i + 1) xs)))
          (sym base) (subst (λ n. AllByRecursion (HasPlaces s.base n) (map cell_view (drop (i + 1) xs))) (sym count)
          more.0);
      elems = more.1;
    }

pub returns : goal.returns
returns c = grind (arith, common_steps)
