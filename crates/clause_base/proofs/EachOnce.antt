-- A sorted list of literals with its repetitions taken out.
use Rattle.std.proofs.Common.{◌≡◌, ℕ, ◌<◌, zero, suc, Bool, true, false, List, [], ◌∷◌, length, get_or, refl, sym, ap}
use Rattle.std.proofs.Common.{subst, ◌∙◌, Some, slice_get, Ordering, nat_cmp, IsPermutation}
use Rattle.std.specs.Cmp.{IsTotalOrder, IsEquivalence, bool_cmp_total}
use Rattle.std.specs.List.{dedup, AllByRecursion}
use Rattle.std.specs.List.Sorted.{IsSorted, IsStrictlySortedBy}
use Rattle.std.specs.Ordering.{eq_by_cmp, is_eq, bool_cmp, then_cmp, on, ordering_then}
use Rattle.std.specs.declared.cmp.Ordering.TheVariants.{Less, Equal, Greater}
use Rattle.std.proofs.lemmas.Cmp.{tied_itself, nat_cmp_total, on_total, then_total, ranked}
use Rattle.std.proofs.lemmas.Bool.{false_from_ne_true}
use Rattle.std.proofs.lemmas.List.Elements.{All-from_recursion}
use Rattle.std.proofs.lemmas.List.Kept.{Contains-dedup, Contains-from_dedup, IsStrictlySortedBy-dedup}
use Rattle.std.proofs.lemmas.List.Sorted.{Contains-permutation, IsPermutation-sym}
use Rattle.std.proofs.lemmas.Option.{slice_get_within, get_or_from_slice_get}
use Rattle.lit_core.specs.declared.literals.Lit.{Lit}
use Rattle.lit_core.specs.Literals.{HasEachOnce}
use Rattle.lit_core.proofs.LiteralFacts.{same_literal}
use Rattle.clause_base.specs.StoreState.{IsEachOnceOf}

-- literals in order of their variables, a negative one first
abbrev pub literal_cmp : Lit → Lit → Ordering
literal_cmp = then_cmp (on (λ l. l.var.0) nat_cmp) (on (λ l. l.positive) bool_cmp)

literal_total : IsTotalOrder literal_cmp
literal_total = then_total (on_total (λ (l : Lit). l.var.0) nat_cmp_total)
    (on_total (λ (l : Lit). l.positive) bool_cmp_total)

both-equal : (r s : Ordering) → ordering_then r s ≡ Equal → (r ≡ Equal) × (s ≡ Equal)
both-equal Less s e = cc
both-equal Equal s e = (refl, e)
both-equal Greater s e = cc

number-equal : (a b : ℕ) → nat_cmp a b ≡ Equal → a ≡ b
number-equal a b e = ranked a b Equal (sym e)

sign-equal : (p q : Bool) → bool_cmp p q ≡ Equal → p ≡ q
sign-equal true true e = refl
sign-equal true false e = cc
sign-equal false true e = cc
sign-equal false false e = refl

literal-equal : (x y : Lit) → literal_cmp x y ≡ Equal → x ≡ y
literal-equal x y e =
    let both = both-equal (nat_cmp x.var.0 y.var.0) (bool_cmp x.positive y.positive) e in
    same_literal x y (number-equal x.var.0 y.var.0 both.0) (sign-equal x.positive y.positive both.1)

module _ (E : Lit → Lit → Bool) (same : (x y : Lit) → E x y ≡ true → x ≡ y) (itself : (x : Lit) → E x x ≡ true) where
  ties : (x y : Lit) → E x y ≡ eq_by_cmp literal_cmp x y
  ties x y = by_order (literal_cmp x y) refl
    where
      differ : (r : Ordering) → literal_cmp x y ≡ r → (r ≡ Equal → ⊥) → E x y ≡ false
      differ r e ne = false_from_ne_true (E x y) (λ t. ne (sym e ∙ ap (literal_cmp x) (sym (same x y t))
          ∙ tied_itself literal_total x))

      by_order : (r : Ordering) → literal_cmp x y ≡ r → E x y ≡ is_eq (literal_cmp x y)
      by_order Less e = differ Less e (λ z. cc) ∙ sym (ap is_eq e)
      by_order Greater e = differ Greater e (λ z. cc) ∙ sym (ap is_eq e)
      by_order Equal e = ap (E x) (sym (literal-equal x y e)) ∙ itself x ∙ sym (ap is_eq e)

  swapped : (x y : Lit) → E x y ≡ E y x
  swapped x y = by_value (E x y) refl
    where
      by_value : (b : Bool) → E x y ≡ b → E x y ≡ E y x
      by_value true e = let s = same x y e in e ∙ sym (itself y) ∙ ap (E y) (sym s)
      by_value false e = e ∙ sym (false_from_ne_true (E y x) (λ t. (let s = same y x t in let z : true ≡ false =
          sym (itself x) ∙ ap (E x) (sym s) ∙ e in cc)))

  laws : IsEquivalence E
  laws = record { refl = itself; symm = swapped; congr = λ x y z e. ap (λ w. E w z) (same x y e) }

  below-all : (x : Lit) (xs : List Lit) (k : ℕ) → AllByRecursion (λ y. literal_cmp x y ≡ Less) xs
      → slice_get xs k ≡ Some x → ⊥
  below-all x xs k a h =
      let lt : k < length xs = slice_get_within xs k x h in
      let at : literal_cmp x (get_or xs k x) ≡ Less = All-from_recursion (λ y. literal_cmp x y ≡ Less) xs a k x lt in
      let less : literal_cmp x x ≡ Less = subst (λ (y : Lit). literal_cmp x y ≡ Less)
      (get_or_from_slice_get xs k x x h) at in
      let equal : literal_cmp x x ≡ Equal = tied_itself literal_total x in
      let z : Less ≡ Equal = sym less ∙ equal in cc

  each-once : (xs : List Lit) → IsStrictlySortedBy literal_cmp xs → HasEachOnce xs
  unfolding IsStrictlySortedBy
  each-once [] s i k l hi hk = cc
  each-once (x ∷ xs) s zero zero l hi hk = refl
  each-once (x ∷ xs) s zero (suc k) l hi hk = absurd (below-all x xs k s.0 (hk ∙ sym hi))
  each-once (x ∷ xs) s (suc i) zero l hi hk = absurd (below-all x xs i s.0 (hi ∙ sym hk))
  each-once (x ∷ xs) s (suc i) (suc k) l hi hk = ap suc (each-once xs s.1 i k l hi hk)

  pub each-once-of : (lits sorted : List Lit) → IsPermutation lits sorted → IsSorted literal_cmp sorted
      → IsEachOnceOf lits (dedup E sorted)
  each-once-of lits sorted moved order = record {
    once = each-once (dedup E sorted) (IsStrictlySortedBy-dedup literal_total ties sorted order);
    from = λ l h. Contains-permutation sorted lits l (IsPermutation-sym lits sorted moved)
        (Contains-from_dedup E sorted l h);
    all = λ l h. Contains-dedup laws same sorted l (Contains-permutation lits sorted l moved h);
  }

-- the variables of the literals before this place rise
abbrev pub RisesTo : List Lit → ℕ → Type 0
RisesTo lits n = (i j : ℕ) (l m : Lit) → i < j → j < n → slice_get lits i ≡ Some l → slice_get lits j ≡ Some m
    → l.var.0 < m.var.0
