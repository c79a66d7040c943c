-- A walk over the elements of one variable after another, from a place among the keys.
use Rattle.std.proofs.Common.{◌≡◌, ℕ, ◌+◌, ◌*◌, ◌-◌, ◌<◌}
use Rattle.std.proofs.Common.{◌≤◌, ◌^◌, List, [], ◌∷◌, ◌++◌, length, get_or, drop}
use Rattle.std.proofs.Common.{refl, sym, ap, subst, arith}
use Rattle.std.specs.List.{AllByRecursion}
use Rattle.std.proofs.lemmas.Nat.{mul-le}
use Rattle.kb_logic.specs.declared.elements.Elem.{Elem}
use Rattle.kb_logic.specs.declared.vocabularies.Bound.{Bound}
use Rattle.kb_logic.specs.Structures.{domain_at, choices}
use Rattle.row_ranges.specs.Leads.{Leads, HasNoKey, IsInOrder, first_step, reach}
use Rattle.row_ranges.proofs.Passing.{one-count, passed-out, within-reach}

reach-some : (domains : List (List Elem)) (steps : List ℕ) (bs : List Bound) → 1 ≤ reach domains steps bs
reach-some domains steps [] = omega arith
reach-some domains [] (b ∷ bs) = omega arith
reach-some domains (s ∷ steps) (b ∷ bs) = let rest = reach-some domains steps bs in omega (arith, rest)

module _ (Out : List Elem → Type 0) (domains : List (List Elem)) (keys : List ℕ) (key : ℕ) (steps : List ℕ)
    (bounds these others : List Bound) (e : List Elem) (split : bounds ≡ these ++ others) (one : length these ≡ 1)
    (led : Leads Out domains keys key steps bounds e) where
  -- with the first variable by itself
  by-first : (P : List ℕ → List Bound → List Bound → List Bound → Type 0)
      → ((s : ℕ) (ss : List ℕ) (b : Bound) → Leads Out domains keys key (s ∷ ss) (b ∷ others) e
      → P (s ∷ ss) (b ∷ others) (b ∷ []) others) → P steps bounds these others
  by-first P f = go these one split
    where
      at : (b : Bound) (ss : List ℕ) → ss ≡ steps → Leads Out domains keys key ss (b ∷ others) e
          → P ss (b ∷ others) (b ∷ []) others
      at b [] is h = absurd h
      at b (s ∷ ss) is h = f s ss b h

      go : (bs : List Bound) → length bs ≡ 1 → bounds ≡ bs ++ others → P steps bounds bs others
      go [] h is = absurd (omega (arith, h))
      go (x ∷ y ∷ bs) h is = absurd (omega (arith, h))
      go (b ∷ []) h is =
          subst (λ all. P steps all (b ∷ []) others) (sym is)
          (at b steps refl (subst (λ all. Leads Out domains keys key steps all e) is led))

  -- the place of one of its elements
  pub led-below : (i : ℕ) (inner : List Elem) → i < length (choices domains these)
      → inner ≡ e ++ get_or (choices domains these) i []
      → Leads Out domains keys (key + i * first_step steps) (drop 1 steps) others inner
  led-below i inner =
      by-first (λ ss all bs rest. i < length (choices domains bs) → inner ≡ e ++ get_or (choices domains bs) i []
      → Leads Out domains keys (key + i * first_step ss) (drop 1 ss) rest inner)
      (λ s ss b h below is.
      subst (λ a. Leads Out domains keys (key + i * s) ss others a) (sym is)
      (h i (omega (arith, below, one-count domains b))))

  pub order-below : (i : ℕ) → i < length (choices domains these) → IsInOrder domains keys key steps bounds
      → IsInOrder domains keys (key + i * first_step steps) (drop 1 steps) others
  order-below i =
      by-first (λ ss all bs rest. i < length (choices domains bs) → IsInOrder domains keys key ss all
      → IsInOrder domains keys (key + i * first_step ss) (drop 1 ss) rest)
      (λ s ss b h below o. record {
        rising = o.rising;
        wide = o.wide.1;
        fits =
            let size : i < length (domain_at domains b.ty) = omega (arith, below, one-count domains b) in
            omega (arith, o.fits, within-reach (length (domain_at domains b.ty)) i s (reach domains ss others) size);
      })

  -- the keys that its elements lead to fit 64 bits
  pub fits-all : IsInOrder domains keys key steps bounds
      → key + (length (choices domains these) - 1) * first_step steps < 2 ^ 64
  fits-all =
      by-first (λ ss all bs rest. IsInOrder domains keys key ss all
      → key + (length (choices domains bs) - 1) * first_step ss < 2 ^ 64)
      (λ s ss b h o.
      let count = ap (λ n. (n - 1) * s) (one-count domains b) in
      omega (arith, o.fits, count, reach-some domains ss others))

  pub fits-one : (i : ℕ) → i < length (choices domains these) → IsInOrder domains keys key steps bounds
      → key + i * first_step steps < 2 ^ 64
  fits-one i below o =
      let most : i * first_step steps ≤ (length (choices domains these) - 1) * first_step steps =
      mul-le i (first_step steps) (length (choices domains these) - 1) (first_step steps) (omega (arith, below))
      (omega arith) in
      omega (arith, most, fits-all o)

  -- what is left out with one of its elements
  pub all-out : (i : ℕ) → i < length (choices domains these) → IsInOrder domains keys key steps bounds
      → 0 < first_step steps → HasNoKey keys (key + i * first_step steps) (first_step steps)
      → AllByRecursion (λ a. Out ((e ++ get_or (choices domains these) i []) ++ a)) (choices domains others)
  all-out i =
      by-first (λ ss all bs rest. i < length (choices domains bs) → IsInOrder domains keys key ss all
      → 0 < first_step ss → HasNoKey keys (key + i * first_step ss) (first_step ss)
      → AllByRecursion (λ a. Out ((e ++ get_or (choices domains bs) i []) ++ a)) (choices domains rest))
      (λ s ss b h below o some none.
      passed-out Out domains keys key s ss b others e i h o.wide (omega (arith, below, one-count domains b)) some
      none)
