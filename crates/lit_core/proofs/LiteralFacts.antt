-- Which literals are one, and what a list of them contains.
use Rattle.std.proofs.Common.{◌≡◌, ℕ, ◌<◌, zero, suc, Bool, true, false, not, List, [], ◌∷◌, length, get_or, refl, ap}
use Rattle.std.proofs.Common.{◌∙◌, ◌⊎◌, inl, inr, ⊎_elim, All, Contains, arith}
use Rattle.std.proofs.lemmas.Bool.{cases_eq}
use Rattle.std.proofs.lemmas.List.Elements.{All-nil, All-cons, All-head, All-tail}
use Rattle.lit_core.specs.declared.literals.Lit.{Lit}
use Rattle.lit_core.specs.Literals.{negated}

-- literals of one variable and one sign are one
pub same_literal : (l m : Lit) → l.var.0 ≡ m.var.0 → l.positive ≡ m.positive → l ≡ m
same_literal l m e f =
    let make : ℕ → Bool → Lit = λ n b. record { var = record { 0 = n }; positive = b } in
    ap (λ n. make n l.positive) e ∙ ap (λ b. make m.var.0 b) f

not-not : (b : Bool) → not (not b) ≡ b
not-not true = refl
not-not false = refl

pub negated-negated : (l : Lit) → negated (negated l) ≡ l
negated-negated l = same_literal (negated (negated l)) l refl (not-not l.positive)

-- no literal is its own negation
pub negated-differs : (l : Lit) → l ≡ negated l → ⊥
negated-differs l e = differs l.positive (ap (λ (x : Lit). x.positive) e)
  where
    differs : (b : Bool) → b ≡ not b → ⊥
    differs true h = cc
    differs false h = cc

decide_sign : (a b : Bool) → (a ≡ b) ⊎ (a ≡ b → ⊥)
decide_sign true true = inl refl
decide_sign true false = inr (λ e. cc)
decide_sign false true = inr (λ e. cc)
decide_sign false false = inl refl

pub decide_literal : (l m : Lit) → (l ≡ m) ⊎ (l ≡ m → ⊥)
decide_literal l m =
    ⊎_elim
    (λ e. ⊎_elim (λ f. inl (same_literal l m e f)) (λ n. inr (λ x. n (ap (λ (y : Lit). y.positive) x)))
    (decide_sign l.positive m.positive))
    (λ n. inr (λ x. n (ap (λ (y : Lit). y.var.0) x)))
    (cases_eq l.var.0 m.var.0)

module _ {X : Type 0} where
  -- an element of a list is its first or one of the rest
  pub Contains-cons_cases : (x : X) (xs : List X) (y : X) → Contains (x ∷ xs) y → (x ≡ y) ⊎ Contains xs y
  Contains-cons_cases x xs y h = at h.0 h.1 h.2
    where
      at : (k : ℕ) → k < length (x ∷ xs) → get_or (x ∷ xs) k y ≡ y → (x ≡ y) ⊎ Contains xs y
      at zero lt e = inl e
      at (suc k) lt e = inr (k, omega arith, e)

  pub Contains-head : (x : X) (xs : List X) → Contains (x ∷ xs) x
  Contains-head x xs = (0, omega arith, refl)

  pub Contains-tail : (x : X) (xs : List X) (y : X) → Contains xs y → Contains (x ∷ xs) y
  Contains-tail x xs y h = (suc h.0, omega (arith, h.1), h.2)

  pub nothing_in_none : (y : X) → Contains [] y → ⊥
  nothing_in_none y h = omega (arith, h.1)

-- whether a literal is in a list
pub decide_member : (xs : List Lit) (l : Lit) → Contains xs l ⊎ (Contains xs l → ⊥)
decide_member [] l = inr (nothing_in_none l)
decide_member (x ∷ xs) l =
    ⊎_elim
    (λ e. inl (0, omega arith, e))
    (λ n. ⊎_elim (λ h. inl (Contains-tail x xs l h)) (λ m. inr (λ h. ⊎_elim n m (Contains-cons_cases x xs l h)))
    (decide_member xs l))
    (decide_literal x l)

-- whether all literals of a list have a property that can be decided
pub decide_all : (P : Lit → Type 0) → ((l : Lit) → P l ⊎ (P l → ⊥)) → (c : List Lit) → All P c ⊎ (All P c → ⊥)
decide_all P decide [] = inl (All-nil P)
decide_all P decide (x ∷ c) =
    ⊎_elim
    (λ p. ⊎_elim (λ r. inl (All-cons P x c p r)) (λ n. inr (λ a. n (All-tail P x c a))) (decide_all P decide c))
    (λ n. inr (λ a. n (All-head P x c a)))
    (decide x)
