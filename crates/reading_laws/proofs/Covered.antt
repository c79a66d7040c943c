-- A cell is covered where each of its elements is among some cells.
use Rattle.std.proofs.Common.{◌≡◌, ℕ, zero, suc, ◌+◌, ◌≤◌, ℤ, pos, negsuc, ◌+ℤ◌, ◌-ℤ◌, ◌≤ℤ◌, ◌<ℤ◌, Bool, true, false}
use Rattle.std.proofs.Common.{not, ◌&&◌, ◌||◌, int_lt, List, [], ◌∷◌, fold, if◌then◌else◌, refl, sym, ap, ◌∙◌, arith}
use Rattle.std.proofs.Common.{inl, inr}
use Rattle.std.specs.Int.{int_min, int_max}
use Rattle.std.specs.List.{list_any, list_all, flat_map, sum_by}
use Rattle.std.proofs.lemmas.Bool.{true≢false, and_from, and_parts, or_cases, false_from_ne_true, eqb-true, eq-eqb}
use Rattle.std.proofs.lemmas.Bool.Decides.{Decides-int_eq}
use Rattle.std.proofs.lemmas.Int.{ints, clamps, by_lt_z}
use Rattle.std.proofs.lemmas.List.Folds.{list_any-append}
use Rattle.std.proofs.lemmas.List.Sums.{sum_by-cons}
use Rattle.kb_logic.specs.declared.elements.Elem.TheVariants.{Named, Num}
use Rattle.kb_logic.specs.Bounds.{Interval}
use Rattle.stage_definitions.specs.Elements.{Cell, one, span, same_element, is_between, is_in, is_among, as_interval}
use Rattle.stage_definitions.specs.Elements.{one_more, size_of, common, joined, do_meet, with_interval, intervals_in}
use Rattle.stage_definitions.specs.Elements.{intervals_of, is_covered, integers_from}
use Rattle.reading_laws.specs.CellLaws.{CoveredIsEach}
use Rattle.reading_laws.proofs.Bounded.{not_lower}
use Rattle.reading_laws.proofs.Listing.{same_tests, lower_not}
use Rattle.reading_laws.proofs.Consistent.{meets}
use Rattle.reading_laws.proofs.Covering.{lies_in, with_one, apart_from, as_number, counted, KeptApart, both_meet, met}
use Rattle.reading_laws.proofs.Covering.{added}

-- ---- no two of the intervals meet

keeps : (i : Interval) (js : List Interval) → KeptApart js → KeptApart (with_interval i js)
keeps i [] d = (refl, tt)
keeps i (j ∷ js) d = by (do_meet i j) refl (keeps (joined i j) js d.1) (keeps i js d.1)
  where
    none : do_meet i j ≡ false → list_any (do_meet j) (with_interval i js) ≡ true → ⊥
    none e h =
        let found = met j (with_interval i js) h in
        elim (or_cases (lies_in found.0 i) (list_any (lies_in found.0) js) (sym (with_one found.0 i js) ∙ found.2)) [
          | inl f ↦ true≢false (sym (meets i.low i.high j.low j.high found.0 f found.1) ∙ e)
          | inr f ↦ true≢false (sym (both_meet found.0 j js found.1 f) ∙ d.0)
        ]

    by : (t : Bool) → do_meet i j ≡ t → KeptApart (with_interval (joined i j) js) → KeptApart (with_interval i js)
        → KeptApart (if t then with_interval (joined i j) js else j ∷ with_interval i js)
    by true e joined_one apart_one = joined_one
    by false e joined_one apart_one = (
      false_from_ne_true (list_any (do_meet j) (with_interval i js))
          (none e),
      apart_one,
    )

pub all_kept : (js is : List Interval) → KeptApart js → KeptApart (fold (λ ks i. with_interval i ks) js is)
all_kept js [] d = d
all_kept js (i ∷ is) d = all_kept (with_interval i js) is (keeps i js d)

-- ---- the integers of one interval

one_more_from : (y : ℤ) → negsuc 0 ≤ℤ y → pos (one_more y) ≡ (y +ℤ pos 1)
one_more_from (pos n) h = omega (arith, ints)
one_more_from (negsuc zero) h = omega (arith, ints)
one_more_from (negsuc (suc n)) h = absurd (omega (arith, ints, h))

none_more : (y : ℤ) → y <ℤ pos 0 → one_more y ≡ 0
none_more (pos n) h = absurd (omega (arith, ints, h))
none_more (negsuc n) h = refl

none_before : (n : ℕ) → n ≡ 0 + n
none_before n = omega arith

within : (a b lo hi : ℤ) → a ≤ℤ b → (t : Bool) → is_between lo hi a ≡ t
    → one_more ((int_min b hi) -ℤ (int_max a lo)) ≡ as_number (t || false) + one_more
    ((int_min b hi) -ℤ (int_max (a +ℤ pos 1) lo))
within a b lo hi order true e =
    let parts = and_parts (not (int_lt a lo)) (not (int_lt hi a)) e in
    let low : lo ≤ℤ a = not_lower a lo parts.0 in
    let high : a ≤ℤ hi = not_lower hi a parts.1 in
    let this = one_more_from ((int_min b hi) -ℤ (int_max a lo)) (omega (arith, ints, clamps, low, high, order)) in
    let next = one_more_from ((int_min b hi) -ℤ (int_max (a +ℤ pos 1) lo))
    (omega (arith, ints, clamps, low, high, order)) in
    omega (arith, ints, clamps, low, high, order, this, next)
within a b lo hi order false e = by_lt_z a lo
    (λ l. let same : int_max a lo ≡ int_max (a +ℤ pos 1) lo = omega (arith, ints, clamps, l) in
    ap (λ m. one_more ((int_min b hi) -ℤ m)) same ∙ none_before
    (one_more ((int_min b hi) -ℤ (int_max (a +ℤ pos 1) lo))))
    (λ g. by_lt_z hi a
    (λ l. none_more ((int_min b hi) -ℤ (int_max a lo)) (omega (arith, ints, clamps, l))
    ∙ sym (none_more ((int_min b hi) -ℤ (int_max (a +ℤ pos 1) lo)) (omega (arith, ints, clamps, l)))
    ∙ none_before (one_more ((int_min b hi) -ℤ (int_max (a +ℤ pos 1) lo))))
    (λ k. absurd (true≢false (sym (and_from (not (int_lt a lo)) (not (int_lt hi a)) (lower_not a lo g)
    (lower_not hi a k)) ∙ e))))

single : (a b : ℤ) (n : ℕ) (k : Interval) → (a +ℤ pos n) ≡ (b +ℤ pos 1) → size_of (common (as_interval a b) k)
    ≡ counted a n (k ∷ [])
single a b zero k e = none_more ((int_min b k.high) -ℤ (int_max a k.low)) (omega (arith, ints, clamps, e))
single a b (suc n) k e =
    let rest = single (a +ℤ pos 1) b n k (omega (arith, ints, e)) in
    within a b k.low k.high (omega (arith, ints, e)) (lies_in a k) refl
    ∙ ap (λ m. as_number (lies_in a k || false) + m) rest

-- ---- the integers of intervals of which no two meet

nothing_counted : (a : ℤ) (n : ℕ) → counted a n [] ≡ 0
nothing_counted a zero = refl
nothing_counted a (suc n) = sym (none_before (counted (a +ℤ pos 1) n [])) ∙ nothing_counted (a +ℤ pos 1) n

all_counted : (a b : ℤ) (n : ℕ) (ks : List Interval) → (a +ℤ pos n) ≡ (b +ℤ pos 1) → KeptApart ks
    → sum_by (λ k. size_of (common (as_interval a b) k)) ks ≡ counted a n ks
all_counted a b n [] e d = sym (nothing_counted a n)
all_counted a b n (k ∷ ks) e d =
    sum_by-cons (λ j. size_of (common (as_interval a b) j)) k ks
    ∙ ap (λ m. m + sum_by (λ j. size_of (common (as_interval a b) j)) ks) (single a b n k e)
    ∙ ap (λ m. counted a n (k ∷ []) + m) (all_counted a b n ks e d.1)
    ∙ sym (added a n k ks d.0)

-- ---- integers among cells

between_same : (y z : ℤ) → same_element (Num z) (Num y) ≡ (is_between y y z || false)
between_same y z = same_tests (same_element (Num z) (Num y)) (is_between y y z || false)
    (λ e. let same : z ≡ y = (Decides-int_eq z y).0 e in ap (λ b. b || false)
    (and_from (not (int_lt z y)) (not (int_lt y z)) (lower_not z y (omega (arith, ints, same)))
    (lower_not y z (omega (arith, ints, same)))))
    (λ e. elim (or_cases (is_between y y z) false e) [
      | inl f ↦ let parts = and_parts (not (int_lt z y)) (not (int_lt y z)) f in
          let low = not_lower z y parts.0 in let high = not_lower y z parts.1 in
          (Decides-int_eq z y).1 (omega (arith, ints, low, high))
      | inr f ↦ absurd (cc)
    ])

in_intervals : (z : ℤ) (c : Cell) → is_in (Num z) c ≡ list_any (lies_in z) (intervals_in c)
in_intervals z (one (Named n)) = refl
in_intervals z (one (Num y)) = between_same y z
in_intervals z (span a b) = or_none (is_between a b z)
  where
    or_none : (b : Bool) → b ≡ (b || false)
    or_none true = refl
    or_none false = refl

among_intervals : (z : ℤ) (cells : List Cell) → is_among cells (Num z) ≡ list_any (lies_in z)
    (flat_map intervals_in cells)
among_intervals z [] = refl
among_intervals z (c ∷ cs) =
    ap (λ b. b || is_among cs (Num z)) (in_intervals z c)
    ∙ ap (λ b. list_any (lies_in z) (intervals_in c) || b) (among_intervals z cs)
    ∙ sym (list_any-append (lies_in z) (intervals_in c) (flat_map intervals_in cs))

pub among_apart : (z : ℤ) (cells : List Cell) → is_among cells (Num z) ≡ list_any (lies_in z) (intervals_of cells)
among_apart z cells = among_intervals z cells ∙ sym (apart_from z [] (flat_map intervals_in cells))

-- ---- all are counted exactly where each is among the cells

counted_some : (a : ℤ) (n : ℕ) (ks : List Interval) → counted a n ks ≤ n
counted_some a zero ks = omega arith
counted_some a (suc n) ks = let rest = counted_some (a +ℤ pos 1) n ks in at_most (list_any (lies_in a) ks)
    (counted (a +ℤ pos 1) n ks) rest
  where
    at_most : (b : Bool) (m : ℕ) → m ≤ n → as_number b + m ≤ suc n
    at_most true m h = omega (arith, h)
    at_most false m h = omega (arith, h)

-- where each is counted, this one is, and so are the others
whole_true : (b : Bool) (m n : ℕ) → m ≤ n → as_number b + m ≡ suc n → (b ≡ true) × (m ≡ n)
whole_true true m n l h = (refl, omega (arith, h))
whole_true false m n l h = absurd (omega (arith, l, h))

each_from : (cells : List Cell) (a : ℤ) (n : ℕ) → counted a n (intervals_of cells) ≡ n
    → list_all (is_among cells) (integers_from a n) ≡ true
each_from cells a zero h = refl
each_from cells a (suc n) h =
    let parts = whole_true (list_any (lies_in a) (intervals_of cells)) (counted (a +ℤ pos 1) n (intervals_of cells)) n
    (counted_some (a +ℤ pos 1) n (intervals_of cells)) h in
    and_from (is_among cells (Num a)) (list_all (is_among cells) (integers_from (a +ℤ pos 1) n)) (among_apart a cells
    ∙ parts.0) (each_from cells (a +ℤ pos 1) n parts.1)

all_from : (cells : List Cell) (a : ℤ) (n : ℕ) → list_all (is_among cells) (integers_from a n) ≡ true
    → counted a n (intervals_of cells) ≡ n
all_from cells a zero h = refl
all_from cells a (suc n) h =
    let parts = and_parts (is_among cells (Num a)) (list_all (is_among cells) (integers_from (a +ℤ pos 1) n)) h in
    ap (λ b. as_number b + counted (a +ℤ pos 1) n (intervals_of cells)) (sym (among_apart a cells) ∙ parts.0)
    ∙ ap (λ m. 1 + m) (all_from cells (a +ℤ pos 1) n parts.1)
    ∙ next n
  where
    next : (m : ℕ) → 1 + m ≡ suc m
    next m = omega arith

-- the integers from one to another, by their number
from_to : (cells : List Cell) (a b : ℤ) (n : ℕ) → one_more (b -ℤ a) ≡ n
    → sum_by (λ k. size_of (common (as_interval a b) k)) (intervals_of cells) ≡ counted a n (intervals_of cells)
from_to cells a b n e = by_lt_z b a
    (λ l. let none : n ≡ 0 = sym e ∙ none_more (b -ℤ a) (omega (arith, ints, l)) in
    no_integer (intervals_of cells) l ∙ sym (ap (λ m. counted a m (intervals_of cells)) none))
    (λ g. all_counted a b n (intervals_of cells) (let size = one_more_from (b -ℤ a) (omega (arith, ints, g)) in
    omega (arith, ints, size, e)) (all_kept [] (flat_map intervals_in cells) tt))
  where
    no_integer : (ks : List Interval) → b <ℤ a → sum_by (λ k. size_of (common (as_interval a b) k)) ks ≡ 0
    no_integer [] l = refl
    no_integer (k ∷ ks) l =
        sum_by-cons (λ j. size_of (common (as_interval a b) j)) k ks
        ∙ ap (λ m. m + sum_by (λ j. size_of (common (as_interval a b) j)) ks)
        (none_more ((int_min b k.high) -ℤ (int_max a k.low)) (omega (arith, ints, clamps, l)))
        ∙ sym (none_before (sum_by (λ j. size_of (common (as_interval a b) j)) ks))
        ∙ no_integer ks l

pub covered_is_each : CoveredIsEach
covered_is_each cells (one x) = or_one (is_among cells x)
  where
    or_one : (b : Bool) → b ≡ (b && true)
    or_one true = refl
    or_one false = refl
covered_is_each cells (span a b) =
    let sum = from_to cells a b (one_more (b -ℤ a)) refl in
    same_tests (is_covered cells (span a b)) (list_all (is_among cells) (integers_from a (one_more (b -ℤ a))))
    (λ e. each_from cells a (one_more (b -ℤ a)) (sym sum ∙ sym
    (eqb-true (one_more (b -ℤ a)) (sum_by (λ k. size_of (common (as_interval a b) k)) (intervals_of cells)) e)))
    (λ e. eq-eqb (one_more (b -ℤ a)) (sum_by (λ k. size_of (common (as_interval a b) k)) (intervals_of cells))
    (sym (all_from cells a (one_more (b -ℤ a)) e) ∙ sym sum))
