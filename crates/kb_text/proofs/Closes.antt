-- The first pair of two bytes in a text.
use Rattle.std.proofs.Common.{◌≡◌, ℕ, zero, suc, ◌+◌, ◌<◌, ◌≤◌, false, List, [], ◌∷◌, length, get_or, take, drop}
use Rattle.std.proofs.Common.{Option, Some, None, refl, sym, ap, inl, inr, arith, add-one, drop-cons}
use Rattle.std.specs.Prelude.{IfSome}
use Rattle.std.proofs.Math.Numerals.{one-add}
use Rattle.std.proofs.lemmas.Bool.{cases_Bool}
use Rattle.kb_text.specs.Ends.{later_by, is_end, close_of}
use Rattle.kb_text.specs.Pieces.{IsUpTo}

take_nil : (m : ℕ) (xs : List ℕ) → m ≤ length xs → take m xs ≡ [] → m ≡ 0
take_nil zero xs le e = refl
take_nil (suc m) [] le e = absurd (omega arith)
take_nil (suc m) (x ∷ xs) le e = absurd (cc)

-- one byte further on
next_by : (i : ℕ) (o : Option ℕ) → later_by i (later_by 1 o) ≡ later_by (i + 1) o
next_by i None = refl
next_by i (Some n) = ap (λ (k : ℕ). Some k) (omega arith)

module _ (first second : ℕ) where
  -- what ends with the first pair is found
  pub close_is : (m : ℕ) (xs : List ℕ) → m ≤ length xs → IsUpTo first second (take m xs)
      → close_of first second xs ≡ Some m
  close_is zero xs le h = elim h [ ]
  close_is (suc zero) [] le h = elim h [ ]
  close_is (suc zero) (a ∷ xs) le h = elim h [ ]
  close_is (suc (suc m)) [] le h = elim h [ ]
  close_is (suc (suc m)) (a ∷ []) le h = absurd (omega arith)
  close_is (suc (suc m)) (a ∷ b ∷ xs) le h =
      elim (cases_Bool (is_end first second a b)) [
        | inl hit ↦ let nil : take m xs ≡ [] = rw hit at h in rw hit
            (ap (λ (k : ℕ). Some (suc (suc k))) (sym (take_nil m xs (omega arith) nil)))
        | inr miss ↦ let more : IsUpTo first second (b ∷ take m xs) = rw miss at h in
            rw (miss, close_is (suc m) (b ∷ xs) (omega arith) more, one-add) refl
      ]

  IsClosed : List ℕ → ℕ → Type 0
  IsClosed xs n = (n ≤ length xs) × IsUpTo first second (take n xs)

  one_later : (a b : ℕ) (xs : List ℕ) (o : Option ℕ) → is_end first second a b ≡ false → IfSome o (IsClosed (b ∷ xs))
      → IfSome (later_by 1 o) (IsClosed (a ∷ b ∷ xs))
  unfolding IsClosed
  one_later a b xs None miss h = tt
  one_later a b xs (Some zero) miss h = elim h.1 [ ]
  one_later a b xs (Some (suc n)) miss h = rw (one-add, miss) (omega arith, h.1)

  -- what is found ends with the first pair
  closed : (xs : List ℕ) → IfSome (close_of first second xs) (IsClosed xs)
  unfolding IsClosed
  closed [] = tt
  closed (a ∷ []) = tt
  closed (a ∷ b ∷ xs) =
      elim (cases_Bool (is_end first second a b)) [
        | inl hit ↦ rw hit (omega arith, rw hit refl)
        | inr miss ↦ rw miss (one_later a b xs (close_of first second (b ∷ xs)) miss (closed (b ∷ xs)))
      ]

  pub close_found : (xs : List ℕ) (n : ℕ) → close_of first second xs ≡ Some n
      → (n ≤ length xs) × IsUpTo first second (take n xs)
  unfolding IsClosed
  close_found xs n e = rw e at (closed xs)

  pub close_next : (xs : List ℕ) (i : ℕ) → i + 1 < length xs → is_end first second (get_or xs i 0) (get_or xs (i + 1) 0)
      ≡ false → later_by i (close_of first second (drop i xs)) ≡ later_by (i + 1)
      (close_of first second (drop (i + 1) xs))
  close_next xs i lt miss =
      let here : i < length xs = omega arith in
      let e1 : drop i xs ≡ get_or xs i 0 ∷ drop (i + 1) xs = rw add-one (drop-cons xs i 0 here) in
      let e2 = drop-cons xs (i + 1) 0 lt in
      rw (e1, e2, miss) (next_by i (close_of first second (get_or xs (i + 1) 0 ∷ drop (suc (i + 1)) xs)))

  -- at the last byte
  pub close_end : (xs : List ℕ) (i : ℕ) → length xs ≤ i + 1 → close_of first second (drop i xs) ≡ None
  close_end [] zero le = refl
  close_end [] (suc i) le = refl
  close_end (a ∷ []) zero le = refl
  close_end (a ∷ []) (suc i) le = close_end [] i (omega arith)
  close_end (a ∷ b ∷ xs) zero le = absurd (omega arith)
  close_end (a ∷ b ∷ xs) (suc i) le = close_end (b ∷ xs) i (omega arith)
