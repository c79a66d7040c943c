-- Selectors, each of another variable.
use Rattle.std.proofs.Common.{◌≡◌, ℕ, ◌≤◌, ◌+◌, Bool, true, false, ◌||◌, ◌<◌, slice_get, Some, None, List, [], ◌∷◌}
use Rattle.std.proofs.Common.{◌++◌, Contains, All, length, map, get_or, eqb, eq-eqb, rules, refl, sym, ap, ◌∙◌, subst}
use Rattle.std.proofs.Common.{arith, ⊎_elim, zero, suc}
use Rattle.std.proofs.lemmas.List.Elements.{All-cons, All-head, All-tail, All-push, All-weaker, All-contains_itself}
use Rattle.std.specs.Cmp.{IsEquivalence}
use Rattle.std.specs.List.{list_any, IsDistinct, AllByRecursion}
use Rattle.std.proofs.lemmas.List.{length-map, map_push}
use Rattle.std.proofs.lemmas.Map.Made.{length-le_from_is_member}
use Rattle.std.proofs.lemmas.Map.Steps.{length-le_from_distinct_below}
use Rattle.std.proofs.lemmas.Map.Keys.{IsDistinct-push}
use Rattle.std.proofs.lemmas.Option.{same_Some, slice_get-get_or, get_or_from_slice_get}
use Rattle.std.proofs.lemmas.Bool.{cases_eq, cases_lt, ne_eqb, both_ways}
use Rattle.lit_core.specs.declared.literals.Lit.{Lit}
use Rattle.lit_core.proofs.LiteralFacts.{same_literal}
use Rattle.ground_core.specs.Problems.{IsLitOf, AreLitsOf}
use Rattle.ground_core.specs.Selectors.{AreSelectors, variables_of}

pub eqb-laws : IsEquivalence eqb
eqb-laws = record {
  refl = λ x. eq-eqb x x refl;
  symm = λ x y. search rules;
  congr = λ x y z e. search rules;
}

-- no literal has the number
missing : (rs : List Lit) (q : ℕ) → All (λ (r : Lit). r.var.0 ≡ q → ⊥) rs → list_any (eqb q) (variables_of rs) ≡ false
missing [] q h = refl
missing (r ∷ rs) q h =
    let P : Lit → Type 0 = λ (k : Lit). k.var.0 ≡ q → ⊥ in
    let here : eqb q r.var.0 ≡ false = ne_eqb q r.var.0 (λ e. All-head P r rs h (sym e)) in
    let rest : list_any (eqb q) (variables_of rs) ≡ false = missing rs q (All-tail P r rs h) in cc

others : (rs : List Lit) (q : ℕ) → All (λ (r : Lit). r.var.0 ≡ q → ⊥) rs → AllByRecursion (λ y. eqb q y ≡ false)
    (variables_of rs)
others [] q h = tt
others (r ∷ rs) q h =
    let P : Lit → Type 0 = λ (k : Lit). k.var.0 ≡ q → ⊥ in
    (ne_eqb q r.var.0 (λ e. All-head P r rs h (sym e)), others rs q (All-tail P r rs h))

pub distinct-nil : IsDistinct eqb []
unfolding IsDistinct
distinct-nil = tt

distinct-cons : (x : ℕ) (xs : List ℕ) → AllByRecursion (λ y. eqb x y ≡ false) xs → IsDistinct eqb xs
    → IsDistinct eqb (x ∷ xs)
unfolding IsDistinct
distinct-cons x xs h d = (h, d)

-- distinct variables are no more than there are
pub few : (rs : List Lit) (n : ℕ) → IsDistinct eqb (variables_of rs) → AreLitsOf n rs → length rs ≤ n
few rs n once lits =
    let zero_new : AllByRecursion (λ y. eqb 0 y ≡ false) (variables_of rs) =
    others rs 0 (λ k d lt e. let x : 1 ≤ (get_or rs k d).var.0 = (lits k d lt).0 in omega (arith, x, e)) in
    let same : length (variables_of rs) ≡ length rs = length-map rs (λ (l : Lit). l.var.0) in
    let all : length (0 ∷ variables_of rs) ≤ n + 1 = length-le_from_distinct_below (0 ∷ variables_of rs) (n + 1)
    (distinct-cons 0 (variables_of rs) zero_new once) below in
    omega (arith, all, same)
  where
    below : (q : ℕ) → list_any (eqb q) (0 ∷ variables_of rs) ≡ true → q < n + 1
    below q e = ⊎_elim (λ lt. lt)
        (λ ge. absurd (both_ways (list_any (eqb q) (0 ∷ variables_of rs)) (past q ge) e))
        (cases_lt q (n + 1))
      where
        past : (q : ℕ) → n + 1 ≤ q → list_any (eqb q) (0 ∷ variables_of rs) ≡ false
        past q ge =
            let here : eqb q 0 ≡ false = ne_eqb q 0 (λ e. omega (arith, ge, e)) in
            let rest : list_any (eqb q) (variables_of rs) ≡ false =
            missing rs q (λ k d lt e. let x : (get_or rs k d).var.0 ≤ n = (lits k d lt).1 in
            omega (arith, x, ge, e)) in cc

module _ (rs : List Lit) (n : ℕ) (l : Lit) (once : IsDistinct eqb (variables_of rs))
    (positive : All (λ (r : Lit). r.positive ≡ true) rs) (on : l.positive ≡ true) (not : Contains rs l → ⊥) where
  differs : All (λ (r : Lit). r.var.0 ≡ l.var.0 → ⊥) rs
  differs = λ k d lt e. not (k, lt, same_literal (get_or rs k l) l (rw-default k d lt e) (positive k l lt ∙ sym on))
    where
      rw-default : (k : ℕ) (d : Lit) → k < length rs → (get_or rs k d).var.0 ≡ l.var.0 → (get_or rs k l).var.0 ≡ l.var.0
      rw-default k d lt e = ap (λ (m : Lit). m.var.0) (get_or_from_slice_get rs k (get_or rs k d) l
          (slice_get-get_or rs k d lt)) ∙ e

  pub new-number : list_any (eqb l.var.0) (variables_of rs) ≡ false
  new-number = missing rs l.var.0 differs

  -- there is one left for a new one
  pub room : AreLitsOf n rs → IsLitOf n l → length rs < n
  room lits within = let x : length (l ∷ rs) ≤ n = few (l ∷ rs) n (distinct-cons l.var.0 (variables_of rs)
      (others rs l.var.0 differs) once) (All-cons (IsLitOf n) l rs within lits) in omega (arith, x)

  pub once-more : IsDistinct eqb (variables_of (rs ++ l ∷ []))
  once-more = subst (IsDistinct eqb) (sym (map_push (λ (r : Lit). r.var.0) rs l))
      (IsDistinct-push eqb-laws (variables_of rs) l.var.0 once new-number)

-- one more of them
pub selectors-push : (rs : List Lit) (n : ℕ) (l : Lit) → AreSelectors rs → l.positive ≡ true → (Contains rs l → ⊥)
    → AreSelectors (rs ++ l ∷ [])
selectors-push rs n l h on not = record {
  once = once-more rs n l h.once h.positive on not;
  positive =
      All-push (λ (r : Lit). r.positive ≡ true) rs l h.positive on;
}
