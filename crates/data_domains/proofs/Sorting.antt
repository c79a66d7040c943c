-- Intervals in memory that were sorted by their least integers, and searched by halving.
use Rattle.std.proofs.Common.{◌≡◌, ◌+◌, ◌<◌, ℕ, zero, suc, ℤ, pos, ◌≤ℤ◌, Bool, true, false, not, ◌||◌, int_lt}
use Rattle.std.proofs.Common.{List, [], ◌∷◌, ◌++◌, Some, option_map, cond, get_or, length, map, drop}
use Rattle.std.proofs.Common.{slice_get, if◌then◌else◌, append_assoc, refl, sym, ap, ◌∙◌, subst, ◌+ℤ◌, ◌<ℤ◌, arith, inl}
use Rattle.std.proofs.Common.{inr, Less, Equal, Greater}
use Rattle.std.specs.List.{list_any}
use Rattle.std.specs.List.Sorted.{IsPartitionPoint, IsPartitionedBy, IsPermutation, IsSortedByKey}
use Rattle.std.specs.Ordering.{int_cmp, is_lt}
use Rattle.std.proofs.lemmas.Bool.{cases_Bool, true≢false}
use Rattle.std.proofs.lemmas.Int.{ints, by_lt_z, clamps}
use Rattle.std.proofs.lemmas.List.{map-append}
use Rattle.std.proofs.lemmas.List.Sorted.{list_any-IsPermutation, IsPermutation-map}
use Rattle.kb_logic.specs.Bounds.{Interval as AnInterval}
use Rattle.stage_definitions.specs.Elements.{joined}
use Rattle.structure_entries.specs.WholeViews.{whole_view}
use Rattle.reading_laws.proofs.Bounded.{not_lower}
use Rattle.reading_laws.proofs.Listing.{lower_not}
use Rattle.data_domains.specs.Runs.{first_reaching, is_hollow, is_inside, AreApartFrom, AreRisingFrom}
use Rattle.data_domains.specs.Sets.{interval_view}
use Rattle.data_domains.proofs.RunFacts.{joined_among}
use Rattle.data_domains.specs.declared.intervals.Interval.{Interval}

abbrev pub views : List Interval → List AnInterval
views xs = map interval_view xs

-- ---- sorted

cmp_lt : (a b : ℤ) → is_lt (int_cmp a b) ≡ int_lt a b
cmp_lt a b = by (int_lt a b) (int_lt b a)
  where
    by : (s t : Bool) → is_lt (cond s Less (cond t Greater Equal)) ≡ s
    by true t = refl
    by false true = refl
    by false false = refl

abbrev low_of : Interval → ℤ
low_of i = whole_view i.low

not_less : (a b : ℤ) → is_lt (int_cmp a b) ≡ false → b ≤ℤ a
not_less a b h = not_lower a b (ap not (sym (cmp_lt a b) ∙ h))

neither : (a b : Bool) → (a || b) ≡ false → (a ≡ false) × (b ≡ false)
neither true b h = absurd (true≢false h)
neither false b h = (refl, h)

rises_from : (z : ℤ) (xs : List Interval) → ((d : Interval) → 0 < length xs → z ≤ℤ low_of (get_or xs 0 d))
    → IsSortedByKey low_of int_cmp xs
    → list_any is_hollow (views xs) ≡ false → AreRisingFrom z (views xs)
rises_from z [] first up full = tt
rises_from z (x ∷ xs) first up full =
    let parts = neither (is_hollow (interval_view x)) (list_any is_hollow (views xs)) full in (
      first x (omega arith),
      not_lower (whole_view x.high) (whole_view x.low) (ap not parts.0),
      rises_from (low_of x) xs (λ d p. not_less (low_of (get_or xs 0 d)) (low_of x)
          (up 0 d (omega arith) (omega arith))) (λ k d l p. shifted k d p) parts.1,
    )
  where
    shifted : (k : ℕ) (d : Interval) → k + 1 < length xs → is_lt
        (int_cmp (low_of (get_or xs (k + 1) d)) (low_of (get_or xs k d))) ≡ false
    shifted k d p =
        let next : suc k + 1 ≡ suc (k + 1) = omega arith in
        sym (ap (λ n. is_lt (int_cmp (low_of (get_or (x ∷ xs) n d)) (low_of (get_or xs k d)))) next)
        ∙ up (suc k) d (omega arith) (omega arith)

pub rises : (xs : List Interval) → IsSortedByKey low_of int_cmp xs → list_any is_hollow (views xs) ≡ false
    → (start : ℤ) × AreRisingFrom start (views xs)
rises [] up full = (pos 0, tt)
rises (x ∷ xs) up full = (low_of x, rises_from (low_of x) (x ∷ xs) (λ d p. omega (arith, ints)) up full)

pub same_any : (test : AnInterval → Bool) (xs ys : List Interval) → IsPermutation xs ys → list_any test (views ys)
    ≡ list_any test (views xs)
same_any test xs ys p = sym (list_any-IsPermutation test (views xs) (views ys)
    (IsPermutation-map interval_view xs ys p))

-- ---- searched

ends_from : (y : ℤ) (xs : List Interval) (j : ℕ) (d : Interval) → AreApartFrom y (views xs) → j < length xs
    → y ≤ℤ whole_view (get_or xs j d).high
ends_from y [] j d a l = absurd (omega arith)
ends_from y (x ∷ xs) zero d a l = omega (arith, ints, a.0, a.1)
ends_from y (x ∷ xs) (suc j) d a l = let rest = ends_from (whole_view x.high +ℤ pos 2) xs j d a.2 (omega (arith, l)) in
    omega (arith, ints, a.0, a.1, rest)

pub parted : (y n : ℤ) (xs : List Interval) → AreApartFrom y (views xs)
    → IsPartitionedBy (λ (i : Interval). int_lt (whole_view i.high) n) xs
parted y n [] a i j d l k h = absurd (omega arith)
parted y n (x ∷ xs) a zero zero d l k h = h
parted y n (x ∷ xs) a zero (suc j) d l k h =
    let after = ends_from (whole_view x.high +ℤ pos 2) xs j d a.2 (omega (arith, k)) in
    elim (cases_Bool (int_lt (whole_view x.high) n)) [
      | inl e ↦ e
      | inr e ↦
          let high = not_lower (whole_view x.high) n (ap not e) in
          absurd (true≢false (sym (lower_not (whole_view (get_or xs j d).high) n (omega (arith, ints, high, after)))
          ∙ ap not h))
    ]
parted y n (x ∷ xs) a (suc i) zero d l k h = absurd (omega (arith, l))
parted y n (x ∷ xs) a (suc i) (suc j) d l k h = parted (whole_view x.high +ℤ pos 2) n xs a.2 i j d (omega (arith, l))
    (omega (arith, k)) h

pub found_at : (n : ℤ) (xs : List Interval) (k : ℕ) → IsPartitionPoint (λ (i : Interval). int_lt (whole_view i.high) n
    ≡ true) (λ (i : Interval). int_lt (whole_view i.high) n ≡ false) xs k
    → option_map interval_view (slice_get xs k) ≡ first_reaching n (views xs)
found_at n [] k point = refl
found_at n (x ∷ xs) zero point = sym (ap (λ b. if b then first_reaching n (views xs) else Some (interval_view x))
    (point.1 0 x (omega arith) (omega arith)))
found_at n (x ∷ xs) (suc k) point =
    found_at n xs k (
      λ j d l h. point.0 (suc j) d (omega arith) (omega (arith, h)),
      λ j d l h. point.1 (suc j) d (omega (arith, l)) (omega (arith, h)),
    )
    ∙ sym (ap (λ b. if b then first_reaching n (views xs) else Some (interval_view x))
    (point.0 0 x (omega arith) (omega arith)))

-- ---- a run that ends

pub pushed_views : (runs : List Interval) (last : Interval) (rest : List AnInterval) → views (runs ++ last ∷ []) ++ rest
    ≡ views runs ++ interval_view last ∷ rest
pushed_views runs last rest = ap (λ is. is ++ rest) (map-append interval_view runs (last ∷ []))
    ∙ append_assoc (views runs) (interval_view last ∷ []) rest

apart_earlier : (y z : ℤ) (is : List AnInterval) → y ≤ℤ z → AreApartFrom z is → AreApartFrom y is
apart_earlier y z [] h a = tt
apart_earlier y z (i ∷ is) h a = (omega (arith, ints, h, a.0), a.1, a.2)

rising_earlier : (y z : ℤ) (is : List AnInterval) → y ≤ℤ z → AreRisingFrom z is → AreRisingFrom y is
rising_earlier y z [] h a = tt
rising_earlier y z (i ∷ is) h a = (omega (arith, ints, h, a.0), a.1, a.2)

pub gap_from : (a b : ℤ) → not (int_lt a b) ≡ false → a <ℤ b
gap_from a b h = by_lt_z a b (λ l. l) (λ g. absurd (true≢false (sym (lower_not a b g) ∙ h)))

-- what follows a run that begins at this integer may follow the runs before it
abbrev pub Follows : List Interval → ℤ → Type 0
Follows runs low = (start : ℤ) × ((more : List AnInterval) → AreApartFrom low more
    → AreApartFrom start (views runs ++ more))

module _ (rest : List Interval) (i : ℕ) (one last : Interval) (next : views (drop i rest) ≡ interval_view one ∷ views
    (drop (i + 1) rest))
    (rising : AreRisingFrom (whole_view last.low) (views (drop i rest)))
    (full : whole_view last.low ≤ℤ whole_view last.high) where
  pub risen : (whole_view last.low ≤ℤ whole_view one.low) × (whole_view one.low ≤ℤ whole_view one.high) × AreRisingFrom
      (whole_view one.low) (views (drop (i + 1) rest))
  risen = subst (AreRisingFrom (whole_view last.low)) next rising

  -- the run ends, and the next one begins
  pub ended : (runs new : List Interval) → new ≡ runs ++ last ∷ []
      → (whole_view last.high +ℤ pos 1) <ℤ whole_view one.low → Follows runs (whole_view last.low)
      → Follows new (whole_view one.low)
  ended runs new more gap f = (
    f.0,
    λ ms a.
        subst (λ xs. AreApartFrom f.0 (views xs ++ ms)) (sym more)
        (subst (AreApartFrom f.0) (sym (pushed_views runs last ms))
        (f.1 (interval_view last ∷ ms) (
          omega (arith, ints),
          full,
          apart_earlier (whole_view last.high +ℤ pos 2)
              (whole_view one.low) ms (omega (arith, ints, gap)) a,
        ))),
  )

  pub ended_same : (runs new : List Interval) (whole : List AnInterval) → new ≡ runs ++ last ∷ []
      → ((z : ℤ) → is_inside (views runs ++ interval_view last ∷ views (drop i rest)) z ≡ is_inside whole z)
      → (z : ℤ) → is_inside (views new ++ interval_view one ∷ views (drop (i + 1) rest)) z ≡ is_inside whole z
  ended_same runs new whole more same z =
      ap (λ xs. is_inside (views xs ++ interval_view one ∷ views (drop (i + 1) rest)) z) more
      ∙ ap (λ js. is_inside js z) (pushed_views runs last (interval_view one ∷ views (drop (i + 1) rest)))
      ∙ sym (ap (λ js. is_inside (views runs ++ interval_view last ∷ js) z) next)
      ∙ same z

  -- the run goes on
  module _ (longer : Interval) (joins : interval_view longer ≡ joined (interval_view last) (interval_view one)) where
    same_low : whole_view longer.low ≡ whole_view last.low
    same_low = let low = ap (λ (j : AnInterval). j.low) joins in let up = risen.0 in
        omega (arith, ints, clamps, low, up)

    pub longer_follows : (runs : List Interval) → Follows runs (whole_view last.low)
        → Follows runs (whole_view longer.low)
    longer_follows runs f = (f.0, λ ms a. f.1 ms (subst (λ z. AreApartFrom z ms) same_low a))

    pub longer_full : whole_view longer.low ≤ℤ whole_view longer.high
    longer_full = let high = ap (λ (j : AnInterval). j.high) joins in omega (arith, ints, clamps, same_low, high, full)

    pub longer_rising : AreRisingFrom (whole_view longer.low) (views (drop (i + 1) rest))
    longer_rising = rising_earlier (whole_view longer.low) (whole_view one.low) (views (drop (i + 1) rest)) (let up =
        risen.0 in omega (arith, ints, same_low, up)) risen.2

    pub longer_same : (runs : List Interval) (whole : List AnInterval)
        → whole_view one.low ≤ℤ (whole_view last.high +ℤ pos 1)
        → ((z : ℤ) → is_inside (views runs ++ interval_view last ∷ views (drop i rest)) z ≡ is_inside whole z)
        → (z : ℤ) → is_inside (views runs ++ interval_view longer ∷ views (drop (i + 1) rest)) z ≡ is_inside whole z
    longer_same runs whole touches same z =
        ap (λ j. is_inside (views runs ++ j ∷ views (drop (i + 1) rest)) z) joins
        ∙ joined_among (views runs) (views (drop (i + 1) rest)) (interval_view last) (interval_view one) z
        risen.0 touches
        ∙ sym (ap (λ js. is_inside (views runs ++ interval_view last ∷ js) z) next)
        ∙ same z
