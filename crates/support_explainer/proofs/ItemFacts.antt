-- Lists without one of their items.
use Rattle.std.proofs.Common.{◌≡◌, ℕ, zero, suc, ◌+◌, ◌-◌, ◌<◌, ◌≤◌, List, [], ◌∷◌, ◌++◌, take, drop, take_all}
use Rattle.std.proofs.Common.{length-drop, length, refl, ap, ◌∙◌, arith, inl, inr, ⊎_elim}
use Rattle.std.proofs.Math.Numerals.{add-one}
use Rattle.lit_core.specs.declared.literals.Lit.{Lit}
use Rattle.ground_core.specs.Solving.{IsSublist}
use Rattle.ground_core.proofs.Sublists.{sublist-refl, sublist-skip}
use Rattle.support_explainer.specs.Reasons.{without_item}

two-parts : (xs : List Lit) (k : ℕ) → take k xs ++ drop (suc k) xs ≡ without_item xs k
two-parts [] zero = refl
two-parts [] (suc k) = refl
two-parts (x ∷ xs) zero = refl
two-parts (x ∷ xs) (suc k) = ap (λ (l : List Lit). x ∷ l) (two-parts xs k)

pub without-parts : (xs : List Lit) (k : ℕ) → take k xs ++ drop (k + 1) xs ≡ without_item xs k
without-parts xs k = ap (λ (n : ℕ). take k xs ++ drop n xs) (add-one k) ∙ two-parts xs k

-- a slice to the end is all that is left
pub take-rest : (xs : List Lit) (k : ℕ) → take (length xs - k) (drop k xs) ≡ drop k xs
take-rest xs k = let n : length (drop k xs) ≡ length xs - k = length-drop k xs in take_all (length xs - k) (drop k xs)
    (omega (arith, n))

pub length-without : (xs : List Lit) (k : ℕ) → k < length xs → length (without_item xs k) + 1 ≡ length xs
length-without [] k lt = omega (arith, lt)
length-without (x ∷ xs) zero lt = omega arith
length-without (x ∷ xs) (suc k) lt = let r : length (without_item xs k) + 1 ≡ length xs =
    length-without xs k (omega (arith, lt)) in omega (arith, r)

pub without-sublist : (xs : List Lit) (k : ℕ) → IsSublist (without_item xs k) xs
without-sublist [] k = tt
without-sublist (x ∷ xs) zero = sublist-skip x xs xs (sublist-refl xs)
without-sublist (x ∷ xs) (suc k) = inl (refl, without-sublist xs k)

-- a later item left out first leaves less
pub without-two : (xs : List Lit) (k i : ℕ) → k < i → IsSublist (without_item (without_item xs i) k) (without_item xs k)
without-two [] k i lt = tt
without-two (x ∷ xs) k zero lt = absurd (omega (arith, lt))
without-two (x ∷ xs) zero (suc i) lt = without-sublist xs i
without-two (x ∷ xs) (suc k) (suc i) lt = inl (refl, without-two xs k i (omega (arith, lt)))

sublist-back : (ys zs : List Lit) → IsSublist zs (ys ++ zs)
sublist-back [] zs = sublist-refl zs
sublist-back (y ∷ ys) zs = sublist-skip y zs (ys ++ zs) (sublist-back ys zs)

pub sublist-append : (xs ys zs : List Lit) → IsSublist xs ys → IsSublist (xs ++ zs) (ys ++ zs)
sublist-append [] ys zs s = sublist-back ys zs
sublist-append (x ∷ xs) [] zs s = absurd s
sublist-append (x ∷ xs) (y ∷ ys) zs s = ⊎_elim
    (λ h. inl (h.0, sublist-append xs ys zs h.1))
    (λ h. inr (sublist-append (x ∷ xs) ys zs h))
    s

pub sublist-trans : (xs ys zs : List Lit) → IsSublist xs ys → IsSublist ys zs → IsSublist xs zs
sublist-trans [] ys zs s t = tt
sublist-trans (x ∷ xs) [] zs s t = absurd s
sublist-trans (x ∷ xs) (y ∷ ys) [] s t = absurd t
sublist-trans (x ∷ xs) (y ∷ ys) (z ∷ zs) s t = ⊎_elim
    (λ h. ⊎_elim
    (λ g. inl (g.0 ∙ h.0, sublist-trans xs ys zs g.1 h.1))
    (λ g. inr (sublist-trans (x ∷ xs) ys zs g h.1))
    s)
    (λ h. inr (sublist-trans (x ∷ xs) (y ∷ ys) zs s h))
    t

pub length-sublist : (xs ys : List Lit) → IsSublist xs ys → length xs ≤ length ys
length-sublist [] ys s = omega arith
length-sublist (x ∷ xs) [] s = absurd s
length-sublist (x ∷ xs) (y ∷ ys) s = ⊎_elim
    (λ h. let r : length xs ≤ length ys = length-sublist xs ys h.1 in omega (arith, r))
    (λ h. let r : length (x ∷ xs) ≤ length ys = length-sublist (x ∷ xs) ys h in omega (arith, r))
    s
