-- What entails what: reasons, hints, and conflicts without a decision.
use Rattle.std.proofs.Common.{◌≡◌, ℕ, suc, zero, ◌<◌, ◌≤◌, Bool, true, not, Option, Some, None, List, [], ◌∷◌}
use Rattle.std.proofs.Common.{slice_get, get_or, refl, sym, ap, ◌∙◌, ⊎_elim, arith, All, Contains}
use Rattle.std.specs.List.{AllZip}
use Rattle.std.proofs.lemmas.List.Elements.{All-nil, All-cons}
use Rattle.lit_core.specs.declared.literals.Lit.{Lit}
use Rattle.lit_core.specs.Literals.{negated, literal_value}
use Rattle.lit_core.specs.Truth.{IsSatisfied}
use Rattle.lit_core.proofs.Soundness.{value-negated, follows-sound}
use Rattle.clause_store.specs.declared.trails.Step.{Step}
use Rattle.clause_store.specs.StoreState.{StoreState, IsStore, IsHeld}
use Rattle.conflict_analysis.specs.Analyses.{FollowsFrom}
use Rattle.search_engine.specs.Searching.{IsLevelOf}

-- a literal and its negation are not both true
pub not-both : (v : ℕ → Bool) (l : Lit) → literal_value v l ≡ true → literal_value v (negated l) ≡ true → ⊥
not-both v l a b = let c : true ≡ not true = sym b ∙ (value-negated v l ∙ ap not a) in cc

-- a valuation that satisfies all held clauses
abbrev pub SatisfiesHeld : StoreState → (ℕ → Bool) → Type 0
SatisfiesHeld s v = (id : ℕ) (c : List Lit) → IsHeld s id c → IsSatisfied v c

hinted-satisfied : (s : StoreState) (v : ℕ → Bool) → SatisfiesHeld s v → (hints : List ℕ) (cs : List (List Lit))
    → AllZip (IsHeld s) hints cs → All (IsSatisfied v) cs
hinted-satisfied s v h [] [] z = All-nil (IsSatisfied v)
hinted-satisfied s v h [] (c ∷ cs) z = absurd z
hinted-satisfied s v h (i ∷ is) [] z = absurd z
hinted-satisfied s v h (i ∷ is) (c ∷ cs) z = All-cons (IsSatisfied v) c cs (h i c z.0)
    (hinted-satisfied s v h is cs z.1)

-- what follows from held clauses is satisfied where they are
pub follows-satisfied : (s : StoreState) (v : ℕ → Bool) → SatisfiesHeld s v → (c : List Lit) (hints : List ℕ)
    → FollowsFrom s c hints → IsSatisfied v c
follows-satisfied s v h c hints f = follows-sound v c f.hinted (hinted-satisfied s v h hints f.hinted f.held) f.follows

-- where every step at level 0 has a reason, what stands there is true
module _ (s : StoreState) (laws : IsStore s) (v : ℕ → Bool) (h : SatisfiesHeld s v) (reasoned : (k : ℕ) (t : Step)
    → slice_get s.trail.steps k ≡ Some t → t.reason ≡ None → 0 < t.level) where
  by_reason : (k : ℕ) (t : Step) → slice_get s.trail.steps k ≡ Some t → t.level ≤ 0
      → ((j : ℕ) (u : Step) → j < k → slice_get s.trail.steps j ≡ Some u → u.level ≤ 0 → literal_value v u.lit ≡ true)
      → (o : Option ℕ) → t.reason ≡ o → literal_value v t.lit ≡ true
  by_reason k t at low before None none = let up : 0 < t.level = reasoned k t at none in absurd (omega (arith, up, low))
  by_reason k t at low before (Some id) is =
      let r = laws.reasons k t id at is in
      let w = h id r.0 r.1 in
      let has : Contains r.0 w.1 = (w.0, w.2, w.3) in
      ⊎_elim
      (λ e. ap (literal_value v) (sym e ∙ w.3) ∙ w.4)
      (λ m. let rise : m.1.level ≤ t.level = laws.trail.coherent.rising m.0 k m.1 t (let lt : m.0 < k = m.2 in
      omega (arith, lt)) m.3 at in
      let no : literal_value v (negated (get_or r.0 w.0 w.1)) ≡ true = ap (literal_value v) (sym m.4)
      ∙ before m.0 m.1 m.2 m.3 (omega (arith, rise, low)) in
      absurd (not-both v w.1 w.4 (ap (λ (x : Lit). literal_value v (negated x)) (sym w.3) ∙ no)))
      (r.2.others w.0 w.1 w.2)

  all-below : (n : ℕ) (k : ℕ) (t : Step) → k < n → slice_get s.trail.steps k ≡ Some t → t.level ≤ 0
      → literal_value v t.lit ≡ true
  all-below zero k t lt at low = absurd (omega (arith, lt))
  all-below (suc n) k t lt at low = by_reason k t at low (λ j u less. all-below n j u (omega (arith, less, lt)))
      t.reason refl

  -- so no clause is false at level 0
  pub root-refuted : (id : ℕ) → IsLevelOf s id 0 → ⊥
  root-refuted id l =
      let w = h id l.clause l.held in
      let f = l.upto w.0 w.1 w.2 in
      let yes : literal_value v f.1.lit ≡ true = all-below (suc f.0) f.0 f.1 (omega arith) f.2 f.4 in
      let no : literal_value v (negated (get_or l.clause w.0 w.1)) ≡ true = ap (literal_value v) (sym f.3) ∙ yes in
      not-both v w.1 w.4 (ap (λ (x : Lit). literal_value v (negated x)) (sym w.3) ∙ no)
