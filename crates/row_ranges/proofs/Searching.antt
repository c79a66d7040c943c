-- What a binary search among rising keys finds.
use Rattle.std.proofs.Common.{◌≡◌, ℕ, zero, suc, ◌+◌, ◌*◌, ◌/◌, ◌-◌, ◌<◌}
use Rattle.std.proofs.Common.{◌≤◌, List, [], ◌∷◌, length, get_or, true, false, map}
use Rattle.std.proofs.Common.{Option, Some, None, slice_get, sym, ap, ◌∙◌, arith, ltb, inl, inr}
use Rattle.std.specs.List.{Contains}
use Rattle.std.specs.Option.{MatchOption}
use Rattle.std.specs.List.Sorted.{IsNonDecreasing, IsPartitionPoint}
use Rattle.std.proofs.lemmas.Bool.{cases_lt, ltb-true, ltb-false}
use Rattle.std.proofs.lemmas.List.{get_or-map, length-map}
use Rattle.std.proofs.lemmas.Nat.{mul-le, div-add-mod'}
use Rattle.std.proofs.lemmas.Option.{slice_get-get_or}
use Rattle.row_ranges.specs.Leads.{HasNoKey}

abbrev pub AreParted : List ℕ → ℕ → ℕ → Type 0
AreParted xs from k = IsPartitionPoint (λ y. ltb y from ≡ true) (λ y. ltb y from ≡ false) xs k

within : (xs : List ℕ) (k x : ℕ) → slice_get xs k ≡ Some x → k < length xs
within [] k x h = cc
within (y ∷ xs) zero x h = omega arith
within (y ∷ xs) (suc k) x h = let rest = within xs k x h in omega (arith, rest)

past : (xs : List ℕ) (k : ℕ) → slice_get xs k ≡ None → length xs ≤ k
past [] k h = omega arith
past (y ∷ xs) zero h = cc
past (y ∷ xs) (suc k) h = let rest = past xs k h in omega (arith, rest)

pub least-none : (xs : List ℕ) (from k : ℕ) → AreParted xs from k → slice_get xs k ≡ None
    → (j : ℕ) → Contains xs j → j < from
least-none xs from k point none j at =
    let all = past xs k none in
    let low : get_or xs at.0 j < from =
    ltb-true (get_or xs at.0 j) from (point.0 at.0 j (omega arith) (omega (arith, all, at.1))) in
    omega (arith, low, at.2)

pub least-some : (xs : List ℕ) (from k x : ℕ) → IsNonDecreasing xs → AreParted xs from k → slice_get xs k ≡ Some x
    → (from ≤ x) × ((j : ℕ) → Contains xs j → from ≤ j → x ≤ j)
least-some xs from k x up point is = (high, lowest)
  where
    here : get_or xs k x ≡ x
    here =
        let both : Some (get_or xs k x) ≡ Some x = sym (slice_get-get_or xs k x (within xs k x is)) ∙ is in
        cc

    high : from ≤ x
    high =
        let not_low : from ≤ get_or xs k x =
        ltb-false (get_or xs k x) from (point.1 k x (omega arith) (within xs k x is)) in
        omega (arith, not_low, here)

    lowest : (j : ℕ) → Contains xs j → from ≤ j → x ≤ j
    lowest j at not_below = elim (cases_lt at.0 k) [
      | inl h ↦
          let low : get_or xs at.0 j < from = ltb-true (get_or xs at.0 j) from (point.0 at.0 j (omega arith) h) in
          absurd (omega (arith, low, at.2, not_below))
      | inr h ↦
          let rises : get_or xs k j ≤ get_or xs at.0 j = up k at.0 j h at.1 in
          let same : Some (get_or xs k j) ≡ Some x = sym (slice_get-get_or xs k j (within xs k x is)) ∙ is in
          let value : get_or xs k j ≡ x = cc in
          omega (arith, rises, value, at.2)
    ]

-- the keys of rows are those of a list that has all of them
pub contains-map : (f : ℕ → ℕ) (xs : List ℕ) (x : ℕ) → Contains xs x → Contains (map f xs) (f x)
contains-map f xs x at =
    (at.0, omega (arith, at.1, length-map xs f), get_or-map f xs at.0 x (f x) at.1 ∙ ap f at.2)

-- no key lies where the elements before the next one lead
pub none-before : (keys : List ℕ) (key step at found i : ℕ) → 0 < step
    → ((j : ℕ) → Contains keys j → key + at * step ≤ j → found ≤ j) → at ≤ i → i < (found - key) / step
    → HasNoKey keys (key + i * step) step
none-before keys key step at found i some least low high j c from to =
    let first : at * step ≤ i * step = mul-le at step i step low (omega arith) in
    let reach : found ≤ j = least j c (omega (arith, first, from)) in
    let whole = div-add-mod' (found - key) step in
    let more : (i + 1) * step ≤ ((found - key) / step) * step =
    mul-le (i + 1) step ((found - key) / step) step (omega (arith, high)) (omega arith) in
    let next : (i + 1) * step ≡ i * step + step = omega arith in
    omega (arith, reach, whole, more, next, to)

pub none-after : (keys : List ℕ) (key step at i : ℕ) → ((j : ℕ) → Contains keys j → j < key + at * step) → at ≤ i
    → HasNoKey keys (key + i * step) step
none-after keys key step at i least low j c from to =
    let first : at * step ≤ i * step = mul-le at step i step low (omega arith) in
    let below : j < key + at * step = least j c in
    omega (arith, first, below, from)

pub least-of : (xs : List ℕ) (from k : ℕ) (o : Option ℕ) → IsNonDecreasing xs → AreParted xs from k
    → o ≡ slice_get xs k
    → MatchOption o ((j : ℕ) → Contains xs j → j < from)
    (λ x. (from ≤ x) × ((j : ℕ) → Contains xs j → from ≤ j → x ≤ j))
least-of xs from k None up point is = least-none xs from k point (sym is)
least-of xs from k (Some x) up point is = least-some xs from k x up point (sym is)
