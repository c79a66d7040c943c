-- What follows in order holds in every valuation that satisfies the clauses.
use Rattle.std.proofs.Common.{◌≡◌, ℕ, Bool, true, false, not, List, [], ◌∷◌, ◌++◌, map, refl, sym, ap, ◌∙◌, ◌⊎◌, inl}
use Rattle.std.proofs.Common.{inr, ⊎_elim, All, Contains, suc, arith, get_or}
use Rattle.std.proofs.lemmas.List.Elements.{All-contains, All-push, All-head, All-tail, All-nil, All-cons}
use Rattle.lit_core.specs.declared.literals.Lit.{Lit}
use Rattle.lit_core.specs.Literals.{negated, literal_value, by_sign}
use Rattle.lit_core.specs.Truth.{IsSatisfied}
use Rattle.lit_core.specs.Refutation.{RefutesInOrder, FollowsInOrder}

-- the negation of a literal has the other value
pub value-negated : (v : ℕ → Bool) (l : Lit) → literal_value v (negated l) ≡ not (literal_value v l)
value-negated v l = flip l.positive (v l.var.0)
  where
    flip : (p b : Bool) → by_sign (not p) b ≡ not (by_sign p b)
    flip true true = refl
    flip true false = refl
    flip false true = refl
    flip false false = refl

not-both : (v : ℕ → Bool) (l : Lit) → literal_value v l ≡ true → literal_value v (negated l) ≡ true → ⊥
not-both v l a b = let c : true ≡ not true = sym b ∙ value-negated v l ∙ ap not a in cc

-- a valuation that makes the literals in force true and satisfies the clauses refutes no refutation
pub refutes-sound : (v : ℕ → Bool) (inforce : List Lit) (clauses : List (List Lit))
    → All (λ l. literal_value v l ≡ true) inforce → All (IsSatisfied v) clauses → RefutesInOrder inforce clauses → ⊥
refutes-sound v inforce [] t s r = r
refutes-sound v inforce (c ∷ []) t s r =
    let w = All-head (IsSatisfied v) c [] s in
    let is : get_or c w.0 w.1 ≡ w.1 = w.3 in
    let has : Contains inforce (negated (get_or c w.0 w.1)) = r w.0 w.1 w.2 in
    let yes : literal_value v (negated (get_or c w.0 w.1)) ≡ true = All-contains (λ l. literal_value v l ≡ true) inforce
    (negated (get_or c w.0 w.1)) t has in
    not-both v w.1 w.4 (ap (λ (x : Lit). literal_value v (negated x)) (sym is) ∙ yes)
refutes-sound v inforce (c ∷ d ∷ cs) t s r =
    let w = All-head (IsSatisfied v) c (d ∷ cs) s in
    let rest = All-tail (IsSatisfied v) c (d ∷ cs) s in
    let is : get_or c w.0 w.1 ≡ w.1 = w.3 in
    let P : Lit → Type 0 = λ l. literal_value v l ≡ true in
    let l : Lit = r.0 in
    let holds : literal_value v l ≡ true = ⊎_elim
    (λ e. ap (literal_value v) (sym e ∙ is) ∙ w.4)
    (λ has. absurd (not-both v w.1 w.4 (ap (λ (x : Lit). literal_value v (negated x)) (sym is)
    ∙ All-contains P inforce (negated (get_or c w.0 w.1)) t has)))
    (r.1.others w.0 w.1 w.2) in
    refutes-sound v (inforce ++ l ∷ []) (d ∷ cs) (All-push P inforce l t holds) rest r.2

-- some literal is true, or all negations are
some-or-none : (v : ℕ → Bool) (c : List Lit) → IsSatisfied v c ⊎ All (λ l. literal_value v l ≡ true) (map negated c)
some-or-none v [] = inr (All-nil (λ l. literal_value v l ≡ true))
some-or-none v (l ∷ c) = by_value (some-or-none v c) (literal_value v l) refl
  where
    by_value : (IsSatisfied v c ⊎ All (λ m. literal_value v m ≡ true) (map negated c)) → (b : Bool)
        → literal_value v l ≡ b → IsSatisfied v (l ∷ c) ⊎ All (λ m. literal_value v m ≡ true) (map negated (l ∷ c))
    by_value r true e = inl (0, l, omega arith, refl, e)
    by_value r false e = ⊎_elim
        (λ s. inl (suc s.0, s.1, omega (arith, s.2), s.3, s.4))
        (λ n. inr (All-cons (λ m. literal_value v m ≡ true) (negated l) (map negated c) (value-negated v l
        ∙ ap not e) n))
        r

-- a clause that follows in order holds wherever the clauses hold
pub follows-sound : (v : ℕ → Bool) (c : List Lit) (clauses : List (List Lit)) → All (IsSatisfied v) clauses
    → FollowsInOrder c clauses → IsSatisfied v c
follows-sound v c clauses s f = ⊎_elim (λ yes. yes) (λ no. absurd (refutes-sound v (map negated c) clauses no s f))
    (some-or-none v c)
