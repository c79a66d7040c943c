-- Filters and tests that agree.
use Rattle.std.proofs.Common.{◌≡◌, ◌==◌, ℕ, Bool, true, false, ◌&&◌, ◌||◌, List, [], ◌∷◌, filter, cond, inl, inr, refl}
use Rattle.std.proofs.Common.{sym, ap, ◌∙◌}
use Rattle.std.specs.List.{list_any}
use Rattle.std.proofs.lemmas.Bool.{cases_Bool, false_from_ne_true, eqb-true, eq-eqb}
use Rattle.kb_logic.proofs.Has.{Has}

pub filter_same : {X : Type 0} (p q : X → Bool) (xs : List X) → ((x : X) → Has xs x → p x ≡ q x) → filter p xs
    ≡ filter q xs
filter_same p q [] h = refl
filter_same p q (x ∷ xs) h =
    ap (λ b. cond b (x ∷ filter p xs) (filter p xs)) (h x (inl refl))
    ∙ ap (λ ys. cond (q x) (x ∷ ys) ys) (filter_same p q xs (λ y m. h y (inr m)))

pub none_kept : {X : Type 0} (xs : List X) → filter (λ x. false) xs ≡ []
none_kept [] = refl
none_kept (x ∷ xs) = none_kept xs

-- two tests that hold together
pub both_ways : (a b : Bool) → (a ≡ true → b ≡ true) → (b ≡ true → a ≡ true) → a ≡ b
both_ways a b h k = elim (cases_Bool b) [
  | inl e ↦ k e ∙ sym e
  | inr e ↦ false_from_ne_true a (λ t. absurd (let no : true ≡ false = sym (h t) ∙ e in cc)) ∙ sym e
]

pub same_turned : (m n : ℕ) → (m == n) ≡ (n == m)
same_turned m n = both_ways (m == n) (n == m) (λ e. eq-eqb n m (sym (eqb-true m n e)))
    (λ e. eq-eqb m n (sym (eqb-true n m e)))

pub any_and : {X : Type 0} (test : X → Bool) (r : Bool) (xs : List X) → list_any (λ x. test x && r) xs
    ≡ (list_any test xs && r)
any_and test r [] = refl
any_and test r (x ∷ xs) = ap (λ b. (test x && r) || b) (any_and test r xs) ∙ by (test x) (list_any test xs) r
  where
    by : (a b c : Bool) → ((a && c) || (b && c)) ≡ ((a || b) && c)
    by true b true = refl
    by true true false = refl
    by true false false = refl
    by false b c = refl

pub and_any : {X : Type 0} (l : Bool) (test : X → Bool) (xs : List X) → list_any (λ x. l && test x) xs
    ≡ (l && list_any test xs)
and_any true test [] = refl
and_any false test [] = refl
and_any true test (x ∷ xs) = ap (λ b. test x || b) (and_any true test xs)
and_any false test (x ∷ xs) = and_any false test xs

pub any_same : {X : Type 0} (p q : X → Bool) (xs : List X) → ((x : X) → p x ≡ q x) → list_any p xs ≡ list_any q xs
any_same p q [] h = refl
any_same p q (x ∷ xs) h = ap (λ b. b || list_any p xs) (h x) ∙ ap (λ b. q x || b) (any_same p q xs h)
