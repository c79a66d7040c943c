-- The integers of cells lie in their hull, which lies in the range of domains where they do.
use Rattle.std.proofs.Common.{◌≡◌, ◌==◌, ℕ, ℤ, pos, negsuc, ◌+ℤ◌, ◌-ℤ◌, ◌≤ℤ◌, ◌<ℤ◌, Bool, true, false, not}
use Rattle.std.proofs.Common.{◌&&◌, ◌||◌, int_lt, List, [], ◌∷◌, map, fold, refl, sym, ap, ◌∙◌, subst, arith}
use Rattle.std.proofs.Common.{if◌then◌else◌, IsTrue, drop, ◌+◌}
use Rattle.std.specs.List.{flat_map, AllByRecursion}
use Rattle.std.proofs.lemmas.Bool.{and_parts, eqb-true}
use Rattle.std.proofs.lemmas.Int.{ints, clamps, by_lt_z}
use Rattle.std.proofs.lemmas.List.Sums.{fold-append}
use Rattle.kb_logic.specs.declared.elements.Elem.{Elem}
use Rattle.kb_logic.specs.declared.elements.Elem.TheVariants.{Named, Num}
use Rattle.kb_logic.specs.Bounds.{Interval}
use Rattle.stage_definitions.specs.Elements.{Cell, one, span, as_interval, intervals_in, is_between, joined, one_more}
use Rattle.stage_definitions.specs.Elements.{members, size_of, with_element}
use Rattle.stage_definitions.specs.DataDomains.{is_in_range}
use Rattle.structure_entries.specs.EntryViews.{cell_view}
use Rattle.structure_entries.specs.declared.elements.Cell.{Cell as ACell}
use Rattle.reading_laws.proofs.Bounded.{not_lower}
use Rattle.reading_laws.proofs.Listing.{one_more_is}
use Rattle.data_domains.specs.Listings.{HasPlaces, hull_of, reach}

-- ---- one interval more

-- an interval that is not empty has a size
not_nothing : (a b : ℤ) → a ≤ℤ b → (size_of (as_interval a b) == 0) ≡ true → ⊥
not_nothing a b h e =
    let size : pos (one_more (b -ℤ a)) ≡ ((b -ℤ a) +ℤ pos 1) = one_more_is (b -ℤ a) (omega (arith, ints, h)) in
    let none : one_more (b -ℤ a) ≡ 0 = eqb-true (one_more (b -ℤ a)) 0 e in
    omega (arith, ints, size, none, h)

-- the second interval lies in the first one
abbrev pub Lies : ℤ → ℤ → Interval → Type 0
Lies a b h = (h.low ≤ℤ a) × (b ≤ℤ h.high)

joins_first : (h i : Interval) → Lies h.low h.high (joined h i)
joins_first h i = (omega (arith, ints, clamps), omega (arith, ints, clamps))

joins_second : (h i : Interval) → Lies i.low i.high (joined h i)
joins_second h i = (omega (arith, ints, clamps), omega (arith, ints, clamps))

itself_in : (h : Interval) → Lies h.low h.high h
itself_in h = (omega (arith, ints), omega (arith, ints))

reach_keeps : (h i : Interval) → Lies h.low h.high (reach h i)
reach_keeps h i = by (size_of i == 0)
  where
    by : (b : Bool) → Lies h.low h.high (if b then h else joined h i)
    by true = itself_in h
    by false = joins_first h i

reach_takes : (h : Interval) (a b : ℤ) → a ≤ℤ b → Lies a b (reach h (as_interval a b))
reach_takes h a b order = by (size_of (as_interval a b) == 0) refl
  where
    by : (t : Bool) → (size_of (as_interval a b) == 0) ≡ t → Lies a b (if t then h else joined h (as_interval a b))
    by true e = absurd (not_nothing a b order e)
    by false e = joins_second h (as_interval a b)

further : (a b : ℤ) (h g : Interval) → Lies a b h → Lies h.low h.high g → Lies a b g
further a b h g x y = (omega (arith, ints, x.0, y.0), omega (arith, ints, x.1, y.1))

all_keep : (h : Interval) (is : List Interval) → Lies h.low h.high (fold reach h is)
all_keep h [] = itself_in h
all_keep h (i ∷ is) = further h.low h.high (reach h i) (fold reach (reach h i) is) (reach_keeps h i)
    (all_keep (reach h i) is)

-- ---- cells

place_in : (h : Interval) (z : ℤ) → Lies z z h → HasPlaces h.low (size_of h) (one (Num z))
place_in h z x =
    let size : pos (one_more (h.high -ℤ h.low)) ≡ ((h.high -ℤ h.low) +ℤ pos 1) =
    one_more_is (h.high -ℤ h.low) (omega (arith, ints, x.0, x.1)) in
    (x.0, omega (arith, ints, x.1, size))

span_in : (h : Interval) (a b : ℤ) → a ≤ℤ b → Lies a b h → (h.low ≤ℤ a) × (b <ℤ (h.low +ℤ pos (size_of h)))
span_in h a b order x =
    let size : pos (one_more (h.high -ℤ h.low)) ≡ ((h.high -ℤ h.low) +ℤ pos 1) =
    one_more_is (h.high -ℤ h.low) (omega (arith, ints, x.0, x.1, order)) in
    (x.0, omega (arith, ints, x.1, size))

cell_in : (h g : Interval) (c : Cell) → Lies (fold reach h (intervals_in c)).low (fold reach h (intervals_in c)).high g
    → HasPlaces g.low (size_of g) c
cell_in h g (one (Named w)) x = tt
cell_in h g (one (Num z)) x = place_in g z
    (further z z (reach h (as_interval z z)) g (reach_takes h z z (omega (arith, ints))) x)
cell_in h g (span a b) x = λ order. span_in g a b order
    (further a b (reach h (as_interval a b)) g (reach_takes h a b order) x)

all_in : (h g : Interval) (cells : List Cell) → fold reach h (flat_map intervals_in cells) ≡ g
    → AllByRecursion (λ c. HasPlaces g.low (size_of g) c) cells
all_in h g [] e = tt
all_in h g (c ∷ cs) e =
    let next = fold reach h (intervals_in c) in
    let rest : fold reach next (flat_map intervals_in cs) ≡ g =
    sym (fold-append reach h (intervals_in c) (flat_map intervals_in cs)) ∙ e in (
      cell_in h g c (subst (Lies next.low next.high) rest (all_keep next (flat_map intervals_in cs))),
      all_in next g cs rest,
    )

pub all_placed : (cells : List Cell)
    → AllByRecursion (HasPlaces (hull_of cells).low (size_of (hull_of cells))) cells
all_placed cells = all_in (as_interval (pos 1000000) (negsuc 999999)) (hull_of cells) cells refl

-- ---- the range of domains

pub record IsSmall (h : Interval) : Type 0 where
  pub low_from : negsuc 999999 ≤ℤ h.low
  pub low_to : h.low ≤ℤ pos 1000000
  pub high_from : negsuc 999999 ≤ℤ h.high
  pub high_to : h.high ≤ℤ pos 1000000

between : (z : ℤ) → is_between (negsuc 999999) (pos 1000000) z ≡ true → (negsuc 999999 ≤ℤ z) × (z ≤ℤ pos 1000000)
between z h =
    let parts = and_parts (not (int_lt z (negsuc 999999))) (not (int_lt (pos 1000000) z)) h in
    (not_lower z (negsuc 999999) parts.0, not_lower (pos 1000000) z parts.1)

joined_small : (h : Interval) (a b : ℤ) → IsSmall h → (negsuc 999999 ≤ℤ a) × (a ≤ℤ pos 1000000)
    → (negsuc 999999 ≤ℤ b) × (b ≤ℤ pos 1000000) → IsSmall (joined h (as_interval a b))
joined_small h a b s x y = record {
  low_from = let p = s.low_from in let q = x.0 in omega (arith, ints, clamps, p, q);
  low_to = let p = s.low_to in let q = x.1 in omega (arith, ints, clamps, p, q);
  high_from = let p = s.high_from in let q = y.0 in omega (arith, ints, clamps, p, q);
  high_to = let p = s.high_to in let q = y.1 in omega (arith, ints, clamps, p, q);
}

reach_small : (h : Interval) (a b : ℤ) (t : Bool) → (size_of (as_interval a b) == 0) ≡ t → IsSmall h
    → (t || (is_between (negsuc 999999) (pos 1000000) a && is_between (negsuc 999999) (pos 1000000) b)) ≡ true
    → IsSmall (if t then h else joined h (as_interval a b))
reach_small h a b true e s x = s
reach_small h a b false e s x =
    let parts = and_parts (is_between (negsuc 999999) (pos 1000000) a) (is_between (negsuc 999999) (pos 1000000) b) x in
    joined_small h a b s (between a parts.0) (between b parts.1)

one_small : (h : Interval) (z : ℤ) (t : Bool) → IsSmall h → is_between (negsuc 999999) (pos 1000000) z ≡ true
    → IsSmall (if t then h else joined h (as_interval z z))
one_small h z true s x = s
one_small h z false s x = joined_small h z z s (between z x) (between z x)

cell_small : (h : Interval) (c : Cell) → IsSmall h → is_in_range c ≡ true → IsSmall (fold reach h (intervals_in c))
cell_small h (one (Named w)) s x = s
cell_small h (one (Num z)) s x = one_small h z (size_of (as_interval z z) == 0) s x
cell_small h (span a b) s x = reach_small h a b (size_of (as_interval a b) == 0) refl s x

all_small : (h : Interval) (cells : List Cell) → IsSmall h → AllByRecursion (λ c. IsTrue (is_in_range c)) cells
    → IsSmall (fold reach h (flat_map intervals_in cells))
all_small h [] s x = s
all_small h (c ∷ cs) s x =
    subst IsSmall (sym (fold-append reach h (intervals_in c) (flat_map intervals_in cs)))
    (all_small (fold reach h (intervals_in c)) cs (cell_small h c s x.0) x.1)

hull_small : (cells : List Cell) → AllByRecursion (λ c. IsTrue (is_in_range c)) cells → IsSmall (hull_of cells)
hull_small cells x = all_small (as_interval (pos 1000000) (negsuc 999999)) cells (record {
  low_from = omega (arith, ints);
  low_to = omega (arith, ints);
  high_from = omega (arith, ints);
  high_to = omega (arith, ints);
}) x

-- the places end in the range
pub end_small : (h : Interval) → IsSmall h → (h.low +ℤ pos (size_of h)) ≤ℤ pos 1000001
end_small h s = by_lt_z h.high h.low
    (λ l.
    let none : one_more (h.high -ℤ h.low) ≡ 0 = nothing (h.high -ℤ h.low) (omega (arith, ints, l)) in
    let t = s.low_to in
    omega (arith, ints, none, t))
    (λ g.
    let size : pos (one_more (h.high -ℤ h.low)) ≡ ((h.high -ℤ h.low) +ℤ pos 1) =
    one_more_is (h.high -ℤ h.low) (omega (arith, ints, g)) in
    let t = s.high_to in
    omega (arith, ints, size, t))
  where
    nothing : (y : ℤ) → y <ℤ pos 0 → one_more y ≡ 0
    nothing (pos n) h = absurd (omega (arith, ints, h))
    nothing (negsuc n) h = refl

pub size_small : (h : Interval) → IsSmall h → pos (size_of h) ≤ℤ pos 2000001
size_small h s = let e = end_small h s in let l = s.low_from in omega (arith, ints, e, l)

mapped : {X Y : Type 0} (P : Y → Type 0) (f : X → Y) (xs : List X) → AllByRecursion (λ x. P (f x)) xs
    → AllByRecursion P (map f xs)
mapped P f [] h = tt
mapped P f (x ∷ xs) h = (h.0, mapped P f xs h.1)

-- what holds of the next item, and of those after it
pub parted : {X Y : Type 0} (P : Y → Type 0) (f : X → Y) (x : X) (xs ys : List X) → xs ≡ x ∷ ys
    → AllByRecursion P (map f xs) → P (f x) × AllByRecursion P (map f ys)
parted P f x xs ys e h = subst (λ zs. AllByRecursion P (map f zs)) e h

-- one cell more is listed, and those after it have places
pub next_listed_cell : (P : Cell → Type 0) (old new whole : List Elem) (xs : List ACell) (i : ℕ) (x : ACell)
    → new ≡ fold with_element old (members (cell_view x)) → drop i xs ≡ x ∷ drop (i + 1) xs
    → AllByRecursion P (map cell_view (drop i xs))
    → fold with_element old (flat_map members (map cell_view (drop i xs))) ≡ whole
    → AllByRecursion P (map cell_view (drop (i + 1) xs))
    × (fold with_element new (flat_map members (map cell_view (drop (i + 1) xs))) ≡ whole)
next_listed_cell P old new whole xs i x added next all inv =
    let rest = map cell_view (drop (i + 1) xs) in (
      (parted P cell_view x (drop i xs) (drop (i + 1) xs) next all).1,
      ap (λ es. fold with_element es (flat_map members rest)) added
          ∙ sym (fold-append with_element old (members (cell_view x)) (flat_map members rest))
          ∙ sym (ap (λ ys. fold with_element old (flat_map members (map cell_view ys))) next) ∙ inv,
    )

pub is_small : (xs : List ACell) (h : Interval) → AllByRecursion (λ x. IsTrue (is_in_range (cell_view x))) xs
    → h ≡ hull_of (map cell_view xs) → IsSmall h
is_small xs h all e = subst IsSmall (sym e)
    (hull_small (map cell_view xs) (mapped (λ c. IsTrue (is_in_range c)) cell_view xs all))
