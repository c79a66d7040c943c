-- Intervals that rise, with a gap before each next one.
use Rattle.std.proofs.Common.{◌≡◌, ℤ, pos, ◌+ℤ◌, ◌≤ℤ◌, ◌<ℤ◌, Bool, true, false, not, ◌&&◌, ◌||◌, int_lt, List, []}
use Rattle.std.proofs.Common.{◌∷◌, ◌++◌, Option, None, Some, if◌then◌else◌, refl, sym, ap, ◌∙◌, subst, arith, inl, inr}
use Rattle.std.specs.List.{list_any}
use Rattle.std.proofs.lemmas.Bool.{true≢false, and_from, and_parts, or_cases, false_from_ne_true}
use Rattle.std.proofs.lemmas.Int.{ints, clamps, by_lt_z}
use Rattle.std.proofs.lemmas.List.Folds.{list_any-append}
use Rattle.kb_logic.specs.Bounds.{Interval}
use Rattle.stage_definitions.specs.Elements.{do_meet, joined}
use Rattle.reading_laws.proofs.Bounded.{not_lower}
use Rattle.reading_laws.proofs.Listing.{lower_not, same_tests}
use Rattle.reading_laws.proofs.Covering.{lies_in, met, KeptApart}
use Rattle.data_domains.specs.Runs.{first_reaching, is_inside, AreApartFrom}

-- ---- one interval

pub within : (i : Interval) (z : ℤ) → i.low ≤ℤ z → z ≤ℤ i.high → lies_in z i ≡ true
within i z a b = and_from (not (int_lt z i.low)) (not (int_lt i.high z)) (lower_not z i.low a) (lower_not i.high z b)

pub ends : (i : Interval) (z : ℤ) → lies_in z i ≡ true → (i.low ≤ℤ z) × (z ≤ℤ i.high)
ends i z h =
    let parts = and_parts (not (int_lt z i.low)) (not (int_lt i.high z)) h in
    (not_lower z i.low parts.0, not_lower i.high z parts.1)

below : (i : Interval) (z : ℤ) → z <ℤ i.low → lies_in z i ≡ false
below i z h = false_from_ne_true (lies_in z i) (λ e. let e = ends i z e in absurd (omega (arith, ints, h, e.0)))

above : (i : Interval) (z : ℤ) → i.high <ℤ z → lies_in z i ≡ false
above i z h = false_from_ne_true (lies_in z i) (λ e. let e = ends i z e in absurd (omega (arith, ints, h, e.1)))

or_true : (b : Bool) → (b || true) ≡ true
or_true true = refl
or_true false = refl

-- ---- where they begin

pub none_inside : (y z : ℤ) (is : List Interval) → AreApartFrom y is → z <ℤ y → is_inside is z ≡ false
none_inside y z [] a h = refl
none_inside y z (i ∷ is) a h =
    ap (λ b. b || is_inside is z) (below i z (omega (arith, ints, h, a.0)))
    ∙ none_inside (i.high +ℤ pos 2) z is a.2 (omega (arith, ints, h, a.0, a.1))

pub kept_apart : (y : ℤ) (is : List Interval) → AreApartFrom y is → KeptApart is
kept_apart y [] a = tt
kept_apart y (i ∷ is) a = (
  false_from_ne_true (list_any (do_meet i) is) (λ h.
      let m = met i is h in
      let high = (ends i m.0 m.1).1 in
      true≢false (sym m.2 ∙ none_inside (i.high +ℤ pos 2) m.0 is a.2 (omega (arith, ints, high)))),
  kept_apart (i.high +ℤ pos 2) is a.2,
)

-- ---- the first one that does not end before an integer

-- whether the integer lies in the interval, where it does not lie after it
abbrev pub reached : ℤ → Option Interval → Bool
reached z None = false
reached z (Some i) = not (int_lt z i.low)

pub inside_reached : (y z : ℤ) (is : List Interval) → AreApartFrom y is
    → is_inside is z ≡ reached z (first_reaching z is)
inside_reached y z [] a = refl
inside_reached y z (i ∷ is) a = by (inside_reached (i.high +ℤ pos 2) z is a.2) (int_lt i.high z) refl
  where
    later : (b c : Bool) → ((b && false) || c) ≡ c
    later true c = refl
    later false c = refl

    here : (b : Bool) → ((b && true) || false) ≡ b
    here true = refl
    here false = refl

    by : is_inside is z ≡ reached z (first_reaching z is) → (t : Bool) → int_lt i.high z ≡ t
        → ((not (int_lt z i.low) && not t) || is_inside is z) ≡ reached z (if t then first_reaching z is else Some i)
    by rest true e = later (not (int_lt z i.low)) (is_inside is z) ∙ rest
    by rest false e =
        let high : z ≤ℤ i.high = not_lower i.high z (ap not e) in
        ap (λ b. (not (int_lt z i.low) && true) || b) (none_inside (i.high +ℤ pos 2) z is a.2
        (omega (arith, ints, high)))
        ∙ here (not (int_lt z i.low))

-- where the first one that does not end before n begins and ends
pub found_from : (y n : ℤ) (is : List Interval) (i : Interval) → AreApartFrom y is → first_reaching n is ≡ Some i
    → (y ≤ℤ i.low) × (i.low ≤ℤ i.high) × (n ≤ℤ i.high)
found_from y n [] i a h = let no : None ≡ Some i = h in absurd (cc)
found_from y n (j ∷ js) i a h = by (λ f. found_from (j.high +ℤ pos 2) n js i a.2 f) (int_lt j.high n) refl h
  where
    by : (first_reaching n js ≡ Some i → ((j.high +ℤ pos 2) ≤ℤ i.low) × (i.low ≤ℤ i.high) × (n ≤ℤ i.high)) → (t : Bool)
        → int_lt j.high n ≡ t → (if t then first_reaching n js else Some j) ≡ Some i → (y ≤ℤ i.low) × (i.low ≤ℤ i.high)
        × (n ≤ℤ i.high)
    by later true e f =
        let rest = later f in
        (omega (arith, ints, a.0, a.1, rest.0), rest.1, rest.2)
    by later false e f =
        let same : j ≡ i = cc in
        let high : n ≤ℤ j.high = not_lower j.high n (ap not e) in (
          subst (λ (k : Interval). y ≤ℤ k.low) same a.0,
          subst (λ (k : Interval). k.low ≤ℤ k.high) same a.1,
          subst (λ (k : Interval). n ≤ℤ k.high) same high,
        )

-- it is one of them
pub kept_inside : (n z : ℤ) (is : List Interval) (i : Interval) → first_reaching n is ≡ Some i → lies_in z i ≡ true
    → is_inside is z ≡ true
kept_inside n z [] i h l = let no : None ≡ Some i = h in absurd (cc)
kept_inside n z (j ∷ js) i h l = by (λ f. kept_inside n z js i f l) (int_lt j.high n) h
  where
    by : (first_reaching n js ≡ Some i → is_inside js z ≡ true) → (t : Bool)
        → (if t then first_reaching n js else Some j) ≡ Some i → (lies_in z j || is_inside js z) ≡ true
    by later true f = ap (λ b. lies_in z j || b) (later f) ∙ or_true (lies_in z j)
    by later false f = let same : j ≡ i = cc in ap (λ b. b || is_inside js z) (ap (lies_in z) same ∙ l)

-- the integer after it is left out
pub gap_after : (y n : ℤ) (is : List Interval) (i : Interval) → AreApartFrom y is → first_reaching n is ≡ Some i
    → is_inside is (i.high +ℤ pos 1) ≡ false
gap_after y n [] i a h = let no : None ≡ Some i = h in absurd (cc)
gap_after y n (j ∷ js) i a h = by (λ f. gap_after (j.high +ℤ pos 2) n js i a.2 f) (int_lt j.high n) h
  where
    by : (first_reaching n js ≡ Some i → is_inside js (i.high +ℤ pos 1) ≡ false) → (t : Bool)
        → (if t then first_reaching n js else Some j) ≡ Some i
        → (lies_in (i.high +ℤ pos 1) j || is_inside js (i.high +ℤ pos 1)) ≡ false
    by later true f =
        let at = found_from (j.high +ℤ pos 2) n js i a.2 f in
        ap (λ b. b || is_inside js (i.high +ℤ pos 1)) (above j (i.high +ℤ pos 1) (omega (arith, ints, at.0, at.1)))
        ∙ later f
    by later false f =
        let same : j ≡ i = cc in
        subst (λ (k : Interval). (lies_in (k.high +ℤ pos 1) j || is_inside js (k.high +ℤ pos 1)) ≡ false) same
        (ap (λ b. b || is_inside js (j.high +ℤ pos 1)) (above j (j.high +ℤ pos 1) (omega (arith, ints)))
        ∙ none_inside (j.high +ℤ pos 2) (j.high +ℤ pos 1) js a.2 (omega (arith, ints)))

-- an integer from n on that lies in one of them does not lie before it
pub reached_later : (y n z : ℤ) (is : List Interval) → AreApartFrom y is → n ≤ℤ z → is_inside is z ≡ true
    → reached z (first_reaching n is) ≡ true
reached_later y n z [] a l h = absurd (cc)
reached_later y n z (j ∷ js) a l h = by (λ f. reached_later (j.high +ℤ pos 2) n z js a.2 l f) (int_lt j.high n) refl
  where
    by : (is_inside js z ≡ true → reached z (first_reaching n js) ≡ true) → (t : Bool) → int_lt j.high n ≡ t
        → reached z (if t then first_reaching n js else Some j) ≡ true
    by later true e = elim (or_cases (lies_in z j) (is_inside js z) h) [
      | inl f ↦
          let at = ends j z f in
          absurd (true≢false (sym (lower_not j.high n (omega (arith, ints, at.1, l))) ∙ ap not e))
      | inr f ↦ later f
    ]
    by later false e = by_lt_z z j.low
        (λ b. absurd (true≢false (sym h ∙ none_inside j.low z (j ∷ js) (omega (arith, ints), a.1, a.2) b)))
        (λ g. lower_not z j.low g)

-- ---- two that touch, as one

pub joins_touching : (i j : Interval) (z : ℤ) → i.low ≤ℤ j.low → j.low ≤ℤ (i.high +ℤ pos 1) → lies_in z (joined i j)
    ≡ (lies_in z i || lies_in z j)
joins_touching i j z rises touches = same_tests (lies_in z (joined i j)) (lies_in z i || lies_in z j)
    (λ h.
    let at = ends (joined i j) z h in
    by_lt_z i.high z
    (λ l. ap (λ b. lies_in z i || b) (within j z (omega (arith, ints, l, touches))
    (omega (arith, ints, clamps, l, at.1))) ∙ or_true (lies_in z i))
    (λ g. ap (λ b. b || lies_in z j) (within i z (omega (arith, ints, clamps, rises, at.0)) g)))
    (λ h. elim (or_cases (lies_in z i) (lies_in z j) h) [
      | inl f ↦ let at = ends i z f in within (joined i j) z (omega (arith, ints, clamps, at.0))
          (omega (arith, ints, clamps, at.1))
      | inr f ↦ let at = ends j z f in within (joined i j) z (omega (arith, ints, clamps, at.0))
          (omega (arith, ints, clamps, at.1))
    ])

pub joined_among : (front rest : List Interval) (i j : Interval) (z : ℤ) → i.low ≤ℤ j.low → j.low ≤ℤ (i.high +ℤ pos 1)
    → is_inside (front ++ joined i j ∷ rest) z ≡ is_inside (front ++ i ∷ j ∷ rest) z
joined_among front rest i j z rises touches =
    list_any-append (lies_in z) front (joined i j ∷ rest)
    ∙ ap (λ b. is_inside front z || (b || is_inside rest z)) (joins_touching i j z rises touches)
    ∙ ap (λ b. is_inside front z || b) (nested (lies_in z i) (lies_in z j) (is_inside rest z))
    ∙ sym (list_any-append (lies_in z) front (i ∷ j ∷ rest))
  where
    nested : (a b c : Bool) → ((a || b) || c) ≡ (a || (b || c))
    nested true b c = refl
    nested false b c = refl
