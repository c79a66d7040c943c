use Rattle.std.proofs.Common.{◌≡◌, ◌-◌, ◌+ℤ◌, pos, fold, length}
use Rattle.stage_definitions.specs.Elements.{integers_from, with_element}
use Rattle.data_domains.specs.Listings.{IsListing}
use Rattle.data_domains.proofs.listing.Listing.add_integers.Given as goal

abbrev pub invariant-loop-place : goal.invariant-loop-place
invariant-loop-place l = record {
  listing : IsListing l.self;
  base : l.self.base ≡ l.fn.self.base;
  count : length l.self.ahead.items ≡ length l.fn.self.ahead.items;
  elems : fold with_element l.self.elems (integers_from (l.self.base +ℤ pos l.place) (l.end - l.place))
      ≡ fold with_element l.fn.self.elems (integers_from (l.fn.self.base +ℤ pos l.from) (l.end - l.from));
}

abbrev pub decreases-loop-place : goal.decreases-loop-place
decreases-loop-place l = l.end - l.place
