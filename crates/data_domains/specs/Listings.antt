-- Elements that were listed, and where the integers stand that are still to be listed.
use Rattle.std.specs.Prelude.{◌≡◌, ◌<◌, ◌+◌, ◌==◌, ℕ, ℤ, pos, negsuc, ◌+ℤ◌, ◌≤ℤ◌, ◌<ℤ◌, ⊤, Bool, true, false, List, map}
use Rattle.std.specs.Prelude.{length, get_or, fold, if◌then◌else◌}
use Rattle.std.specs.List.{list_any, flat_map}
use Rattle.std.specs.Str.{bytes_eq}
use Rattle.kb_logic.specs.declared.elements.Elem.{Elem}
use Rattle.kb_logic.specs.declared.elements.Elem.TheVariants.{Named, Num}
use Rattle.kb_logic.specs.Bounds.{Interval}
use Rattle.stage_definitions.specs.Scopes.{Text}
use Rattle.stage_definitions.specs.Elements.{Cell, one, span, as_interval, intervals_in, joined, same_element, size_of}
use Rattle.data_domains.specs.declared.listing.Listing.{Listing}

-- the element is listed
abbrev pub is_listed : List Elem → Elem → Bool
is_listed xs x = list_any (same_element x) xs

-- the words are those of the list; from each place on so many integers are listed as is said there; an integer that
-- lies
-- at a place and is not listed has a 0 there, and only such a one
pub record IsListing (s : Listing) : Type 0 where
  pub words : (w : Text) → list_any (bytes_eq w) (map (λ v. v.now) s.words.keys) ≡ is_listed s.elems (Named w)
  pub ahead :
      (k j : ℕ) → j < get_or s.ahead.items k 0 → is_listed s.elems (Num (s.base +ℤ pos (k + j))) ≡ true
  pub missing :
      (k : ℕ) → k < length s.ahead.items → get_or s.ahead.items k 0 ≡ 0
      → is_listed s.elems (Num (s.base +ℤ pos k)) ≡ false

-- each integer of the cell is one of so many from this one on
abbrev pub HasPlaces : ℤ → ℕ → Cell → Type 0
HasPlaces base n (one (Named w)) = ⊤
HasPlaces base n (one (Num z)) = (base ≤ℤ z) × (z <ℤ (base +ℤ pos n))
HasPlaces base n (span a b) = a ≤ℤ b → (base ≤ℤ a) × (b <ℤ (base +ℤ pos n))

-- from the least to the greatest integer of both, of which the second one may be empty
abbrev pub reach : Interval → Interval → Interval
reach i j = if size_of j == 0 then i else joined i j

-- the interval in which the integers of some cells lie; without integers it is empty
abbrev pub hull_of : List Cell → Interval
hull_of cells = fold reach (as_interval (pos 1000000) (negsuc 999999)) (flat_map intervals_in cells)
