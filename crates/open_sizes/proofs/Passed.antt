-- Instances that change nothing are passed over.
use Rattle.std.proofs.Common.{◌≡◌, ℕ, zero, suc, ◌+◌, ◌-◌, ◌<◌, ◌≤◌, List, [], ◌∷◌, ◌++◌, length, get_or}
use Rattle.std.proofs.Common.{drop, fold, refl, sym, ap, ◌∙◌, arith}
use Rattle.std.specs.List.{AllByRecursion}
use Rattle.std.proofs.lemmas.List.{at_drop_more}
use Rattle.kb_logic.specs.declared.elements.Elem.{Elem}
use Rattle.plain_evaluation.proofs.Folds.{after_front, inner_fold}

module _ {S : Type 0} (G : S → List Elem → S) (Out : List Elem → Type 0) (q : S)
    (fixed : (a : List Elem) → Out a → G q a ≡ q) where
  stays : (e : List Elem) (xs : List (List Elem)) → AllByRecursion (λ a. Out (e ++ a)) xs
      → fold (λ r a. G r (e ++ a)) q xs ≡ q
  stays e [] h = refl
  stays e (x ∷ xs) h = ap (λ r. fold (λ t a. G t (e ++ a)) r xs) (fixed (e ++ x) h.0) ∙ stays e xs h.1

  module _ (e : List Elem) (cs rest : List (List Elem)) where
    abbrev F : S → List Elem → S
    F = after_front (λ r x. G r (e ++ x)) rest

    passed_one : (i : ℕ) → AllByRecursion (λ a. Out ((e ++ get_or cs i []) ++ a)) rest → F q (get_or cs i []) ≡ q
    passed_one i h =
        sym (inner_fold G rest e (e ++ get_or cs i []) (get_or cs i []) q refl) ∙ stays (e ++ get_or cs i []) rest h

    passed_many : (n i : ℕ) → i + n ≤ length cs
        → ((k : ℕ) → i ≤ k → k < i + n → AllByRecursion (λ a. Out ((e ++ get_or cs k []) ++ a)) rest)
        → fold F q (drop i cs) ≡ fold F q (drop (i + n) cs)
    passed_many zero i h all = ap (λ k. fold F q (drop k cs)) (let same : i ≡ i + 0 = omega arith in same)
    passed_many (suc n) i h all =
        let below : i < length cs = omega (arith, h) in
        at_drop_more (fold F q) cs i [] below
        ∙ (ap (λ r. fold F r (drop (i + 1) cs)) (passed_one i (all i (omega arith) (omega arith)))
        ∙ (passed_many n (i + 1) (omega (arith, h)) (λ k low high. all k (omega (arith, low)) (omega (arith, high)))
        ∙ ap (λ k. fold F q (drop k cs)) (let same : (i + 1) + n ≡ i + suc n = omega arith in same)))

    -- from one assignment on to another
    pub passed_over : (i j : ℕ) → i ≤ j → j ≤ length cs
        → ((k : ℕ) → i ≤ k → k < j → AllByRecursion (λ a. Out ((e ++ get_or cs k []) ++ a)) rest)
        → fold F q (drop j cs) ≡ fold F q (drop i cs)
    passed_over i j low high all =
        let sum : i + (j - i) ≡ j = omega (arith, low) in
        sym (passed_many (j - i) i (omega (arith, sum, high)) (λ k a z. all k a (omega (arith, sum, z)))
        ∙ ap (λ k. fold F q (drop k cs)) sum)
