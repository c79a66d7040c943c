-- Integers that are listed from a place on.
use Rattle.std.proofs.Common.{◌≡◌, ◌<◌, ◌≤◌, ◌+◌, ◌-◌, ℕ, zero, suc, ℤ, pos, ◌+ℤ◌, ◌-ℤ◌, ◌≤ℤ◌, List, [], ◌∷◌, ◌++◌}
use Rattle.std.proofs.Common.{length, fold}
use Rattle.std.proofs.Common.{get_or, set, Bool, true, false, ◌||◌, if◌then◌else◌, refl, ap, sym, ◌∙◌, inl, inr, arith}
use Rattle.std.specs.List.{list_any}
use Rattle.std.specs.Str.{bytes_eq}
use Rattle.std.proofs.lemmas.Bool.{cases_eq, cases_lt, true≢false, false_from_ne_true}
use Rattle.std.proofs.lemmas.Bool.Decides.{Decides-int_eq}
use Rattle.std.proofs.lemmas.Grind.{get_or-set_at}
use Rattle.std.proofs.lemmas.Int.{ints}
use Rattle.std.proofs.lemmas.List.{get_or-set_other, length-set}
use Rattle.std.proofs.lemmas.List.Folds.{list_any-append}
use Rattle.kb_logic.specs.declared.elements.Elem.{Elem}
use Rattle.kb_logic.specs.declared.elements.Elem.TheVariants.{Named, Num}
use Rattle.stage_definitions.specs.Elements.{as_interval, integers_from, same_element, size_of, with_element}
use Rattle.reading_laws.proofs.Listing.{one_more_is}
use Rattle.reading_laws.proofs.Same.{itself}
use Rattle.data_domains.specs.Listings.{is_listed}

-- ---- one more element

or_back : (a b : Bool) → a ≡ true → (a || b) ≡ true
or_back true b h = refl
or_back false b h = absurd (true≢false (sym h))

or_last : (a b : Bool) → b ≡ true → (a || (b || false)) ≡ true
or_last true b h = refl
or_last false true h = refl
or_last false false h = absurd (true≢false (sym h))

or_neither : (a b : Bool) → a ≡ false → b ≡ false → (a || (b || false)) ≡ false
or_neither false false h k = refl
or_neither true b h k = absurd (true≢false h)
or_neither false true h k = absurd (true≢false k)

or_nothing : (a : Bool) → (a || (false || false)) ≡ a
or_nothing true = refl
or_nothing false = refl

pub kept : (xs : List Elem) (x y : Elem) → is_listed xs y ≡ true → is_listed (xs ++ x ∷ []) y ≡ true
kept xs x y h = list_any-append (same_element y) xs (x ∷ []) ∙ or_back (is_listed xs y) (same_element y x || false) h

pub added : (xs : List Elem) (x : Elem) → is_listed (xs ++ x ∷ []) x ≡ true
added xs x = list_any-append (same_element x) xs (x ∷ []) ∙ or_last (is_listed xs x) (same_element x x) (itself x)

other_number : (y z : ℤ) → (y ≡ z → ⊥) → same_element (Num y) (Num z) ≡ false
other_number y z ne = false_from_ne_true (same_element (Num y) (Num z)) (λ t. ne ((Decides-int_eq y z).0 t))

pub still_missing : (xs : List Elem) (y z : ℤ) → (y ≡ z → ⊥) → is_listed xs (Num y) ≡ false
    → is_listed (xs ++ Num z ∷ []) (Num y) ≡ false
still_missing xs y z ne h = list_any-append (same_element (Num y)) xs (Num z ∷ [])
    ∙ or_neither (is_listed xs (Num y)) (same_element (Num y) (Num z)) h (other_number y z ne)

pub word_kept : (xs : List Elem) (w : List ℕ) (z : ℤ) → is_listed xs (Named w) ≡ is_listed (xs ++ Num z ∷ []) (Named w)
word_kept xs w z =
    sym (list_any-append (same_element (Named w)) xs (Num z ∷ []) ∙ or_nothing (is_listed xs (Named w)))

pub number_kept : (xs : List Elem) (w : List ℕ) (z : ℤ) → is_listed xs (Num z) ≡ is_listed (xs ++ Named w ∷ []) (Num z)
number_kept xs w z =
    sym (list_any-append (same_element (Num z)) xs (Named w ∷ []) ∙ or_nothing (is_listed xs (Num z)))

pub more_words : (xs : List Elem) (ws : List (List ℕ)) (v w : List ℕ) → list_any (bytes_eq v) ws
    ≡ is_listed xs (Named v)
    → list_any (bytes_eq v) (ws ++ w ∷ []) ≡ is_listed (xs ++ Named w ∷ []) (Named v)
more_words xs ws v w h =
    list_any-append (bytes_eq v) ws (w ∷ []) ∙ ap (λ b. b || (bytes_eq v w || false)) h
    ∙ sym (list_any-append (same_element (Named v)) xs (Named w ∷ []))

pub new_element : (xs : List Elem) (x : Elem) → is_listed xs x ≡ false → xs ++ x ∷ [] ≡ with_element xs x
new_element xs x h = sym (ap (λ b. if b then xs else xs ++ x ∷ []) h)

pub old_element : (xs : List Elem) (x : Elem) → is_listed xs x ≡ true → with_element xs x ≡ xs
old_element xs x h = ap (λ b. if b then xs else xs ++ x ∷ []) h

-- ---- places

-- from each place on so many integers are listed as is said there
abbrev pub IsAhead : List Elem → ℤ → List ℕ → Type 0
IsAhead xs base ahead = (k j : ℕ) → j < get_or ahead k 0 → is_listed xs (Num (base +ℤ pos (k + j))) ≡ true

-- an integer at a place with a 0 is not listed
abbrev pub IsMissing : List Elem → ℤ → List ℕ → Type 0
IsMissing xs base ahead = (k : ℕ) → k < length ahead → get_or ahead k 0 ≡ 0
    → is_listed xs (Num (base +ℤ pos k)) ≡ false

pub at_same : (xs : List Elem) (base : ℤ) (k i : ℕ) → k ≡ i → is_listed xs (Num (base +ℤ pos k)) ≡ true
    → is_listed xs (Num (base +ℤ pos i)) ≡ true
at_same xs base k i e h = ap (λ n. is_listed xs (Num (base +ℤ pos n))) (sym e) ∙ h

module _ (xs : List Elem) (base : ℤ) (ahead : List ℕ) (place : ℕ) (lt : place < length ahead) where
  pub listed_ahead : IsAhead xs base ahead → IsAhead (xs ++ Num (base +ℤ pos place) ∷ []) base (set ahead place 1)
  listed_ahead old k j h = elim (cases_eq k place) [
    | inl e ↦
        let one : get_or (set ahead place 1) k 0 ≡ 1 = get_or-set_at ahead place k 1 0 e lt in
        let first : place ≡ k + j = omega (arith, h, one, e) in
        at_same (xs ++ Num (base +ℤ pos place) ∷ []) base place (k + j) first (added xs (Num (base +ℤ pos place)))
    | inr ne ↦
        let same : get_or (set ahead place 1) k 0 ≡ get_or ahead k 0 = get_or-set_other ahead place k 1 0 ne in
        kept xs (Num (base +ℤ pos place)) (Num (base +ℤ pos (k + j))) (old k j (omega (arith, h, same)))
  ]

  pub listed_missing : IsMissing xs base ahead → IsMissing (xs ++ Num (base +ℤ pos place) ∷ []) base (set ahead place 1)
  listed_missing old k within none = elim (cases_eq k place) [
    | inl e ↦
        let one : get_or (set ahead place 1) k 0 ≡ 1 = get_or-set_at ahead place k 1 0 e lt in
        absurd (omega (arith, one, none))
    | inr ne ↦
        let same : get_or (set ahead place 1) k 0 ≡ get_or ahead k 0 = get_or-set_other ahead place k 1 0 ne in
        let before : get_or ahead k 0 ≡ 0 = omega (arith, same, none) in
        let size : length (set ahead place 1) ≡ length ahead = length-set ahead place 1 in
        still_missing xs (base +ℤ pos k) (base +ℤ pos place)
        (λ e. let same_place : k ≡ place = omega (arith, ints, e) in ne same_place)
        (old k (omega (arith, within, size)) before)
  ]

  module _ (step further sum : ℕ) (at : get_or ahead place 0 ≡ step) (behind : further ≡ get_or ahead (place + step) 0)
      (low : step ≤ sum) (high : sum ≤ step + further) (some : 0 < step) where
    pub joined_ahead : IsAhead xs base ahead → IsAhead xs base (set ahead place sum)
    joined_ahead old k j h = elim (cases_eq k place) [
      | inl e ↦
          let here : get_or (set ahead place sum) k 0 ≡ sum = get_or-set_at ahead place k sum 0 e lt in
          elim (cases_lt j step) [
            | inl l ↦ at_same xs base (place + j) (k + j) (omega (arith, e)) (old place j (omega (arith, l, at)))
            | inr g ↦
                at_same xs base ((place + step) + (j - step)) (k + j) (omega (arith, e, g))
                (old (place + step) (j - step) (omega (arith, g, h, here, high, behind)))
          ]
      | inr ne ↦
          let same : get_or (set ahead place sum) k 0 ≡ get_or ahead k 0 = get_or-set_other ahead place k sum 0 ne in
          old k j (omega (arith, h, same))
    ]

    pub joined_missing : IsMissing xs base ahead → IsMissing xs base (set ahead place sum)
    joined_missing old k within none = elim (cases_eq k place) [
      | inl e ↦
          let here : get_or (set ahead place sum) k 0 ≡ sum = get_or-set_at ahead place k sum 0 e lt in
          absurd (omega (arith, here, none, low, some))
      | inr ne ↦
          let same : get_or (set ahead place sum) k 0 ≡ get_or ahead k 0 = get_or-set_other ahead place k sum 0 ne in
          let before : get_or ahead k 0 ≡ 0 = omega (arith, same, none) in
          let size : length (set ahead place sum) ≡ length ahead = length-set ahead place sum in
          old k (omega (arith, within, size)) before
    ]

-- ---- integers one by one

pub next_integer : (z : ℤ) (k n : ℕ) → k < n → integers_from (z +ℤ pos k) (n - k) ≡ Num (z +ℤ pos k)
    ∷ integers_from (z +ℤ pos (k + 1)) (n - (k + 1))
next_integer z k n h =
    let more : n - k ≡ suc (n - (k + 1)) = omega arith in
    let step : ((z +ℤ pos k) +ℤ pos 1) ≡ (z +ℤ pos (k + 1)) = omega (arith, ints) in
    ap (integers_from (z +ℤ pos k)) more ∙ ap (λ y. Num (z +ℤ pos k) ∷ integers_from y (n - (k + 1))) step

pub next_listed : (old new : List Elem) (z : ℤ) (k n : ℕ) → k < n → new ≡ with_element old (Num (z +ℤ pos k))
    → fold with_element new (integers_from (z +ℤ pos (k + 1)) (n - (k + 1)))
    ≡ fold with_element old (integers_from (z +ℤ pos k) (n - k))
next_listed old new z k n h added =
    ap (λ xs. fold with_element xs (integers_from (z +ℤ pos (k + 1)) (n - (k + 1)))) added
    ∙ sym (ap (fold with_element old) (next_integer z k n h))

-- integers that are listed may be passed by
pub passed : (xs : List Elem) (base : ℤ) (step place end : ℕ)
    → ((j : ℕ) → j < step → is_listed xs (Num (base +ℤ pos (place + j))) ≡ true)
    → fold with_element xs (integers_from (base +ℤ pos (place + step)) (end - (place + step)))
    ≡ fold with_element xs (integers_from (base +ℤ pos place) (end - place))
passed xs base zero place end h =
    let same : place + 0 ≡ place = omega arith in
    ap (λ n. fold with_element xs (integers_from (base +ℤ pos n) (end - n))) same
passed xs base (suc step) place end h = elim (cases_lt place end) [
  | inl l ↦
      let here : is_listed xs (Num (base +ℤ pos place)) ≡ true = at_same xs base (place + 0) place (omega arith)
      (h 0 (omega arith)) in
      let later : place + suc step ≡ (place + 1) + step = omega arith in
      ap (λ n. fold with_element xs (integers_from (base +ℤ pos n) (end - n))) later
      ∙ passed xs base step (place + 1) end
      (λ j lt. at_same xs base (place + suc j) ((place + 1) + j) (omega arith) (h (suc j) (omega (arith, lt))))
      ∙ next_listed xs xs base place end l (sym (old_element xs (Num (base +ℤ pos place)) here))
  | inr g ↦
      let none : end - place ≡ 0 = omega (arith, g) in
      let nothing : end - (place + suc step) ≡ 0 = omega (arith, g) in
      ap (λ n. fold with_element xs (integers_from (base +ℤ pos (place + suc step)) n)) nothing
      ∙ sym (ap (λ n. fold with_element xs (integers_from (base +ℤ pos place) n)) none)
]

-- a range from its first place to behind its last one
pub span_places : (base low high : ℤ) (first last : ℕ) → base +ℤ pos first ≡ low → base +ℤ pos last ≡ high → low ≤ℤ high
    → integers_from (base +ℤ pos first) ((last + 1) - first) ≡ integers_from low (size_of (as_interval low high))
span_places base low high first last e f order =
    let size : pos (size_of (as_interval low high)) ≡ ((high -ℤ low) +ℤ pos 1) =
    one_more_is (high -ℤ low) (omega (arith, ints, order)) in
    let count : (last + 1) - first ≡ size_of (as_interval low high) = omega (arith, ints, e, f, size, order) in
    ap (λ z. integers_from z ((last + 1) - first)) e ∙ ap (integers_from low) count
