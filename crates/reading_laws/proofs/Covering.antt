-- Integers counted by intervals of which no two meet.
use Rattle.std.proofs.Common.{◌≡◌, ℕ, zero, suc, ◌+◌, ℤ, pos, ◌+ℤ◌, ◌-ℤ◌, ◌≤ℤ◌, Bool, true, false, not, ◌||◌, int_lt}
use Rattle.std.proofs.Common.{List, [], ◌∷◌, fold, if◌then◌else◌, refl, sym, ap, ◌∙◌, arith, inl, inr}
use Rattle.std.specs.Prelude.{⊤}
use Rattle.std.specs.Int.{int_min, int_max}
use Rattle.std.specs.List.{list_any}
use Rattle.std.proofs.lemmas.Bool.{true≢false, and_from, and_parts, or_cases}
use Rattle.std.proofs.lemmas.Int.{ints, clamps, by_lt_z}
use Rattle.kb_logic.specs.Bounds.{Interval}
use Rattle.stage_definitions.specs.Elements.{is_between, joined, do_meet, with_interval}
use Rattle.reading_laws.proofs.Bounded.{not_lower}
use Rattle.reading_laws.proofs.Listing.{same_tests, lower_not}
use Rattle.reading_laws.proofs.Consistent.{meets}
use Rattle.reading_laws.proofs.Sharing.{not_below}

abbrev pub lies_in : ℤ → Interval → Bool
lies_in z i = is_between i.low i.high z

-- an integer in an interval that takes in another one that it meets
joins : (i j : Interval) (z : ℤ) → do_meet i j ≡ true → lies_in z (joined i j) ≡ (lies_in z i || lies_in z j)
joins i j z h =
    let order = not_below ((int_min i.high j.high) -ℤ (int_max i.low j.low)) h in
    same_tests (lies_in z (joined i j)) (lies_in z i || lies_in z j)
    (λ e.
    let parts = and_parts (not (int_lt z (int_min i.low j.low))) (not (int_lt (int_max i.high j.high) z)) e in
    let low = not_lower z (int_min i.low j.low) parts.0 in
    let high = not_lower (int_max i.high j.high) z parts.1 in
    by_cases (lies_in z i) (lies_in z j) (λ n. second low high order n))
    (λ e. elim (or_cases (lies_in z i) (lies_in z j) e) [
      | inl f ↦
          let parts = and_parts (not (int_lt z i.low)) (not (int_lt i.high z)) f in
          let low = not_lower z i.low parts.0 in
          let high = not_lower i.high z parts.1 in
          and_from (not (int_lt z (int_min i.low j.low))) (not (int_lt (int_max i.high j.high) z))
          (lower_not z (int_min i.low j.low) (omega (arith, ints, clamps, low)))
          (lower_not (int_max i.high j.high) z (omega (arith, ints, clamps, high)))
      | inr f ↦
          let parts = and_parts (not (int_lt z j.low)) (not (int_lt j.high z)) f in
          let low = not_lower z j.low parts.0 in
          let high = not_lower j.high z parts.1 in
          and_from (not (int_lt z (int_min i.low j.low))) (not (int_lt (int_max i.high j.high) z))
          (lower_not z (int_min i.low j.low) (omega (arith, ints, clamps, low)))
          (lower_not (int_max i.high j.high) z (omega (arith, ints, clamps, high)))
    ])
  where
    by_cases : (a b : Bool) → (a ≡ false → b ≡ true) → (a || b) ≡ true
    by_cases true b f = refl
    by_cases false b f = f refl

    inside : (l h y : ℤ) → l ≤ℤ y → y ≤ℤ h → is_between l h y ≡ true
    inside l h y a b = and_from (not (int_lt y l)) (not (int_lt h y)) (lower_not y l a) (lower_not h y b)

    second : int_min i.low j.low ≤ℤ z → z ≤ℤ int_max i.high j.high
        → pos 0 ≤ℤ ((int_min i.high j.high) -ℤ (int_max i.low j.low)) → lies_in z i ≡ false → lies_in z j ≡ true
    second low high order n = by_lt_z z i.low
        (λ l. inside j.low j.high z (omega (arith, ints, clamps, low, l)) (omega (arith, ints, clamps, l, order)))
        (λ g. by_lt_z i.high z
        (λ l. inside j.low j.high z (omega (arith, ints, clamps, order, l)) (omega (arith, ints, clamps, high, l)))
        (λ k. absurd (true≢false (sym (inside i.low i.high z g k) ∙ n))))

-- one more interval: an integer lies in it, or in one of the others
pub with_one : (z : ℤ) (i : Interval) (js : List Interval) → list_any (lies_in z) (with_interval i js)
    ≡ (lies_in z i || list_any (lies_in z) js)
with_one z i [] = refl
with_one z i (j ∷ js) = by (do_meet i j) refl (with_one z (joined i j) js) (with_one z i js)
  where
    rotate : (a b c : Bool) → (b || (a || c)) ≡ (a || (b || c))
    rotate true true c = refl
    rotate true false c = refl
    rotate false b c = refl

    nested : (a b c : Bool) → ((a || b) || c) ≡ (a || (b || c))
    nested true b c = refl
    nested false b c = refl

    by : (t : Bool) → do_meet i j ≡ t → list_any (lies_in z) (with_interval (joined i j) js)
        ≡ (lies_in z (joined i j) || list_any (lies_in z) js) → list_any (lies_in z) (with_interval i js)
        ≡ (lies_in z i || list_any (lies_in z) js)
        → list_any (lies_in z) (with_interval i (j ∷ js)) ≡ (lies_in z i || (lies_in z j || list_any (lies_in z) js))
    by true e joined_one apart_one =
        ap (λ b. list_any (lies_in z) (if b then with_interval (joined i j) js else j ∷ with_interval i js)) e
        ∙ joined_one
        ∙ ap (λ b. b || list_any (lies_in z) js) (joins i j z e)
        ∙ nested (lies_in z i) (lies_in z j) (list_any (lies_in z) js)
    by false e joined_one apart_one =
        ap (λ b. list_any (lies_in z) (if b then with_interval (joined i j) js else j ∷ with_interval i js)) e
        ∙ ap (λ b. lies_in z j || b) apart_one
        ∙ rotate (lies_in z i) (lies_in z j) (list_any (lies_in z) js)

-- an integer lies in one of the intervals exactly where it lies in one of those of which no two meet
pub apart_from : (z : ℤ) (js is : List Interval) → list_any (lies_in z) (fold (λ ks i. with_interval i ks) js is)
    ≡ (list_any (lies_in z) js || list_any (lies_in z) is)
apart_from z js [] = or_none (list_any (lies_in z) js)
  where
    or_none : (b : Bool) → b ≡ (b || false)
    or_none true = refl
    or_none false = refl
apart_from z js (i ∷ is) =
    apart_from z (with_interval i js) is
    ∙ ap (λ b. b || list_any (lies_in z) is) (with_one z i js)
    ∙ rotate (lies_in z i) (list_any (lies_in z) js) (list_any (lies_in z) is)
  where
    rotate : (a b c : Bool) → ((a || b) || c) ≡ (b || (a || c))
    rotate true true c = refl
    rotate true false c = refl
    rotate false b c = refl

-- ---- how many integers lie in some of the intervals

abbrev pub as_number : Bool → ℕ
as_number true = 1
as_number false = 0

-- of so many integers from this one on
abbrev pub counted : ℤ → ℕ → List Interval → ℕ
counted a zero ks = 0
counted a (suc n) ks = as_number (list_any (lies_in a) ks) + counted (a +ℤ pos 1) n ks

-- none of the others meets it
abbrev pub KeptApart : List Interval → Type 0
KeptApart [] = ⊤
KeptApart (k ∷ ks) = (list_any (do_meet k) ks ≡ false) × KeptApart ks

-- an integer in an interval and in one of the others makes these meet
pub both_meet : (z : ℤ) (j : Interval) (ks : List Interval) → lies_in z j ≡ true → list_any (lies_in z) ks ≡ true
    → list_any (do_meet j) ks ≡ true
both_meet z j [] h k = absurd (cc)
both_meet z j (i ∷ is) h k = elim (or_cases (lies_in z i) (list_any (lies_in z) is) k) [
  | inl e ↦ ap (λ b. b || list_any (do_meet j) is) (meets j.low j.high i.low i.high z h e)
  | inr e ↦ ap (λ b. do_meet j i || b) (both_meet z j is h e) ∙ or_true (do_meet j i)
]
  where
    or_true : (b : Bool) → (b || true) ≡ true
    or_true true = refl
    or_true false = refl

-- and intervals that meet have an integer in both
pub met : (j : Interval) (ks : List Interval) → list_any (do_meet j) ks ≡ true → (z : ℤ) × (lies_in z j ≡ true)
    × (list_any (lies_in z) ks ≡ true)
met j [] h = absurd (cc)
met j (i ∷ is) h = elim (or_cases (do_meet j i) (list_any (do_meet j) is) h) [
  | inl e ↦
      let order = not_below ((int_min j.high i.high) -ℤ (int_max j.low i.low)) e in
      let z = int_max j.low i.low in
      let in_j = inside j.low j.high (int_max j.low i.low) (omega (arith, ints, clamps))
      (omega (arith, ints, clamps, order)) in
      let in_i = inside i.low i.high (int_max j.low i.low) (omega (arith, ints, clamps))
      (omega (arith, ints, clamps, order)) in
      (int_max j.low i.low, in_j, ap (λ b. b || list_any (lies_in (int_max j.low i.low)) is) in_i)
  | inr e ↦ let rest = met j is e in (
    rest.0,
    rest.1,
    ap (λ b. lies_in rest.0 i || b) rest.2
        ∙ or_true (lies_in rest.0 i),
  )
]
  where
    or_true : (b : Bool) → (b || true) ≡ true
    or_true true = refl
    or_true false = refl

    inside : (l h y : ℤ) → l ≤ℤ y → y ≤ℤ h → is_between l h y ≡ true
    inside l h y a b = and_from (not (int_lt y l)) (not (int_lt h y)) (lower_not y l a) (lower_not h y b)

-- an integer is counted once
counted_once : (a b : Bool) → (a ≡ true → b ≡ true → ⊥) → as_number (a || b) ≡ as_number a + as_number b
counted_once true true f = absurd (f refl refl)
counted_once true false f = refl
counted_once false b f = omega arith

pub added : (a : ℤ) (n : ℕ) (k : Interval) (ks : List Interval) → list_any (do_meet k) ks ≡ false → counted a n (k ∷ ks)
    ≡ counted a n (k ∷ []) + counted a n ks
added a zero k ks h = refl
added a (suc n) k ks h =
    let rest = added (a +ℤ pos 1) n k ks h in
    let here = counted_once (lies_in a k) (list_any (lies_in a) ks)
    (λ e f. true≢false (sym (both_meet a k ks e f) ∙ h)) in
    let alone = ap as_number (or_none (lies_in a k)) in
    omega (arith, rest, here, alone)
  where
    or_none : (b : Bool) → (b || false) ≡ b
    or_none true = refl
    or_none false = refl
