-- What is covered of a cited clause.
use Rattle.std.proofs.Common.{◌≡◌, ℕ, ◌+◌, ◌-◌, ◌<◌, ◌≤◌, List, All, take, length, get_or, sym, ◌∙◌, subst, inl, inr}
use Rattle.std.proofs.Common.{⊎_elim, arith, Contains, ◌⊎◌, Some, ◌↔◌, IsTrue, Bool, ap}
use Rattle.std.proofs.lemmas.List.{take_all}
use Rattle.std.proofs.lemmas.List.Elements.{All-contains, All-more, All-same, Contains-get_or}
use Rattle.lit_core.specs.declared.literals.Lit.{Lit}
use Rattle.lit_core.specs.Literals.{negated}
use Rattle.kb_logic.specs.declared.elements.ExtInt.{ExtInt}
use Rattle.ground_core.specs.declared.parts.TermBound.{TermBound}
use Rattle.derivation_log.specs.Steps.{CheckState, Cites, HasOpposites}
use Rattle.log_checker.specs.declared.citing.Other.{Other}
use Rattle.log_checker.specs.Refuting.{IsNamed}
use Rattle.log_checker.specs.Citing.{IsSelector, IsOther}
use Rattle.log_checker.specs.BoundOrder.{IsFound, IsNotFound}

abbrev pub Covered : List Lit → List TermBound → Other → Lit → Type 0
Covered lits bounds other m = Contains lits (negated m) ⊎ IsOther bounds other m

module _ (lits : List Lit) (bounds : List TermBound) (other : Other) (c : List Lit) (i : ℕ) where
  pub covered-more : (x m : Lit) → i < length c → get_or c i x ≡ m → Covered lits bounds other m
      → All (Covered lits bounds other) (take i c) → All (Covered lits bounds other) (take (i + 1) c)
  covered-more x m lt is k h = All-more (Covered lits bounds other) c i x lt h
      (subst (Covered lits bounds other) (sym is) k)

  pub covered-all : length c ≤ i → All (Covered lits bounds other) (take i c) → All (Covered lits bounds other) c
  covered-all le h = All-same (Covered lits bounds other) c (take i c) (sym (take_all i c le)) h

  pub uncovered : (x m : Lit) → i < length c → get_or c i x ≡ m → (Contains lits (negated m) → ⊥)
      → (IsOther bounds other m → ⊥) → All (Covered lits bounds other) c → ⊥
  uncovered x m lt is a b h =
      ⊎_elim a b (All-contains (Covered lits bounds other) c m h (subst (Contains c) is (Contains-get_or c i x lt)))

module _ (st : CheckState) (lits : List Lit) (Other : Lit → Type 0) (n : ℕ) where
  pub cites-none : n ≡ 0 → HasOpposites lits → Cites st lits Other n
  cites-none e h = inl (e, h)

  pub cites-none-back : n ≡ 0 → Cites st lits Other n → HasOpposites lits
  cites-none-back e h = ⊎_elim (λ x. x.1) (λ x. absurd (let y : 1 ≤ n = x.0 in omega (arith, y, e))) h

  pub cites-some : (d : List Lit) → IsNamed st.clauses n d → All (λ m. Contains lits (negated m) ⊎ Other m) d
      → Cites st lits Other n
  cites-some d is h = inr (is.0, d, is.1, h)

  pub cites-some-back : (d : List Lit) → IsNamed st.clauses n d → Cites st lits Other n
      → All (λ m. Contains lits (negated m) ⊎ Other m) d
  cites-some-back d is h = ⊎_elim
      (λ x. absurd (let y : n ≡ 0 = x.0 in let z : 1 ≤ n = is.0 in omega (arith, y, z)))
      (λ x. let a : Some x.1 ≡ Some d = sym x.2 ∙ is.1 in let b : x.1 ≡ d =
      cc in subst (λ c. All (λ m. Contains lits (negated m) ⊎ Other m) c) b x.3)
      h

  pub cites-unnamed : ((n ≡ 0) → ⊥) → ((d : List Lit) → IsNamed st.clauses n d → ⊥) → Cites st lits Other n → ⊥
  cites-unnamed some never h = ⊎_elim (λ x. some x.0) (λ x. never x.1 (x.0, x.2)) h

pub found-selector : (bounds : List TermBound) (t : ℕ) (k : ExtInt) (m : Lit) (b : TermBound) (r : Bool)
    → IsFound bounds m.var.0 b → (IsTrue r ↔ IsSelector t k m b) → IsTrue r
    ↔ ((c : TermBound) × Contains bounds c × (c.term ≡ t - 1) × (c.below ≡ k) × (m ≡ negated c.out))
found-selector bounds t k m b r is h = (
  λ x. let s = h.0 x in (b, is.0, s.0, s.1, s.2),
  λ x. h.1 (subst (IsSelector t k m) (is.2 x.0 x.1 (ap (λ (l : Lit). l.var.0) (sym x.4))) (x.2, x.3, x.4)),
)

pub no-selector : (bounds : List TermBound) (t : ℕ) (k : ExtInt) (m : Lit) → IsNotFound bounds m.var.0
    → ((c : TermBound) × Contains bounds c × (c.term ≡ t - 1) × (c.below ≡ k) × (m ≡ negated c.out)) → ⊥
no-selector bounds t k m never x = never x.0 x.1 (ap (λ (l : Lit). l.var.0) (sym x.4))
