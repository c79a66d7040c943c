-- Instances that add nothing are passed over.
use Rattle.std.proofs.Common.{◌≡◌, ℕ, zero, suc, ◌+◌, ◌-◌, ◌<◌, ◌≤◌, Bool, List, [], ◌∷◌, ◌++◌, length, get_or}
use Rattle.std.proofs.Common.{drop, fold, refl, sym, ap, ◌∙◌, arith}
use Rattle.std.specs.List.{AllByRecursion}
use Rattle.std.proofs.lemmas.List.{at_drop_more}
use Rattle.kb_logic.specs.declared.elements.Elem.{Elem}
use Rattle.kb_logic.specs.Trees.{FormulaTree}
use Rattle.lit_core.specs.declared.literals.Lit.{Lit}
use Rattle.ground_core.specs.Problems.{ProblemState}
use Rattle.term_values.specs.GroundBases.{GroundBase}
use Rattle.plain_evaluation.proofs.Folds.{after_front, inner_fold}
use Rattle.sentence_guards.specs.Guards.{AddsNothing}
use Rattle.ground_walk.specs.Steps.{assert_step}

module _ (b : GroundBase) (sign : Bool) (f : FormulaTree) (ls : List Lit) where
  -- what no instance adds to
  stays : (e : List Elem) (xs : List (List Elem)) (q : ProblemState)
      → AllByRecursion (λ a. AddsNothing b sign f (e ++ a)) xs
      → fold (λ r a. assert_step b sign f ls r (e ++ a)) q xs ≡ q
  stays e [] q h = refl
  stays e (x ∷ xs) q h =
      ap (λ r. fold (λ t a. assert_step b sign f ls t (e ++ a)) r xs) (h.0 ls q) ∙ stays e xs q h.1

  module _ (e : List Elem) (cs rest : List (List Elem)) where
    abbrev F : ProblemState → List Elem → ProblemState
    F = after_front (λ q x. assert_step b sign f ls q (e ++ x)) rest

    -- the assignments that begin with one that adds nothing
    passed-one : (i : ℕ) (q : ProblemState)
        → AllByRecursion (λ a. AddsNothing b sign f ((e ++ get_or cs i []) ++ a)) rest → F q (get_or cs i []) ≡ q
    passed-one i q h =
        sym (inner_fold (λ q a. assert_step b sign f ls q a) rest e (e ++ get_or cs i []) (get_or cs i []) q refl)
        ∙ stays (e ++ get_or cs i []) rest q h

    passed-many : (n i : ℕ) (q : ProblemState) → i + n ≤ length cs
        → ((k : ℕ) → i ≤ k → k < i + n
        → AllByRecursion (λ a. AddsNothing b sign f ((e ++ get_or cs k []) ++ a)) rest)
        → fold F q (drop i cs) ≡ fold F q (drop (i + n) cs)
    passed-many zero i q h all = ap (λ k. fold F q (drop k cs)) (let same : i ≡ i + 0 = omega arith in same)
    passed-many (suc n) i q h all =
        let below : i < length cs = omega (arith, h) in
        at_drop_more (fold F q) cs i [] below
        ∙ (ap (λ r. fold F r (drop (i + 1) cs)) (passed-one i q (all i (omega arith) (omega arith)))
        ∙ (passed-many n (i + 1) q (omega (arith, h)) (λ k low high. all k (omega (arith, low)) (omega (arith, high)))
        ∙ ap (λ k. fold F q (drop k cs)) (let same : (i + 1) + n ≡ i + suc n = omega arith in same)))

    -- from one assignment on to another
    pub passed-over : (i j : ℕ) (q : ProblemState) → i ≤ j → j ≤ length cs
        → ((k : ℕ) → i ≤ k → k < j → AllByRecursion (λ a. AddsNothing b sign f ((e ++ get_or cs k []) ++ a)) rest)
        → fold F q (drop j cs) ≡ fold F q (drop i cs)
    passed-over i j q low high all =
        let sum : i + (j - i) ≡ j = omega (arith, low) in
        sym (passed-many (j - i) i q (omega (arith, sum, high)) (λ k a z. all k a (omega (arith, sum, z)))
        ∙ ap (λ k. fold F q (drop k cs)) sum)
