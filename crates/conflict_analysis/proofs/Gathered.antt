-- What is marked after one more literal.
use Rattle.std.proofs.Common.{◌≡◌, ℕ, ◌<◌, ◌≤◌, Option, Some, None, List, [], ◌∷◌, ◌++◌, refl, sym, ap, ◌∙◌, ◌⊎◌, inl}
use Rattle.std.proofs.Common.{inr, ⊎_elim, subst, Contains, slice_get, arith}
use Rattle.std.specs.Option.{IsSome}
use Rattle.std.proofs.lemmas.List.Elements.{Contains-append_left, Contains-push, Contains-push_cases}
use Rattle.lit_core.specs.declared.literals.Lit.{Lit}
use Rattle.lit_core.specs.Literals.{negated}
use Rattle.lit_core.proofs.LiteralFacts.{nothing_in_none}
use Rattle.clause_store.specs.declared.trails.Step.{Step}
use Rattle.clause_store.specs.TrailState.{TrailState}
use Rattle.clause_store.specs.TrailLaws.{IsTrail, IsFixed}
use Rattle.clause_store.specs.StoreState.{IsMadeBefore}
use Rattle.conflict_analysis.specs.declared.resolvent.Resolvent.{Resolvent}
use Rattle.conflict_analysis.specs.Marked.{Inserts}
use Rattle.conflict_analysis.specs.Resolvents.{IsMadeAt, IsOfOne, IsUpper, IsLower, Gathers}
use Rattle.conflict_analysis.proofs.Places.{made-below, variable-of}

-- nothing is gathered yet
pub gathers-none : (steps : List Step) (r : Resolvent) → Gathers steps r (Contains []) r
gathers-none steps r = record {
  floor = refl;
  top = refl;
  marked = λ m has k lt at. absurd (nothing_in_none m has);
  kept_upper = λ k h. h;
  kept_lower = λ k h. h;
  from_upper = λ k h. inl h;
  from_lower = λ k h. inl h;
}

-- what was gathered, and then one literal
pub gathers-more : (steps : List Step) (old mid new : Resolvent) (lits : List Lit) (lit : Lit)
    → Gathers steps old (Contains lits) mid → Gathers steps mid (λ m. m ≡ lit) new
    → Gathers steps old (Contains (lits ++ lit ∷ [])) new
gathers-more steps old mid new lits lit h g = record {
  floor = g.floor ∙ h.floor;
  top = g.top ∙ h.top;
  marked = λ m has k lt at. ⊎_elim
      (λ o. ⊎_elim (λ u. inl (g.kept_upper k u)) (λ l. inr (g.kept_lower k l)) (h.marked m o k lt at))
      (λ e. g.marked m (sym e) k (subst (λ (n : ℕ). k < n) (sym h.top) lt) at)
      (Contains-push_cases lits lit m has);
  kept_upper = λ k o. g.kept_upper k (h.kept_upper k o);
  kept_lower = λ k o. g.kept_lower k (h.kept_lower k o);
  from_upper = λ k has. ⊎_elim
      (λ o. ⊎_elim (λ u. inl u) (λ w. inr (w.0, w.1, more-of k w.2)) (h.from_upper k o))
      (λ n. inr (subst (λ (x : ℕ). k < x) h.top n.0, subst (λ (f : ℕ). IsUpper steps f k) h.floor n.1, last-of k n.2))
      (g.from_upper k has);
  from_lower = λ k has. ⊎_elim
      (λ o. ⊎_elim (λ u. inl u) (λ w. inr (w.0, more-of k w.1)) (h.from_lower k o))
      (λ n. inr (subst (λ (f : ℕ). IsLower steps f k) h.floor n.0, last-of k n.1))
      (g.from_lower k has);
}
  where
    more-of : (k : ℕ) → IsOfOne steps (Contains lits) k → IsOfOne steps (Contains (lits ++ lit ∷ [])) k
    more-of k w = (w.0, Contains-append_left lits (lit ∷ []) w.0 w.1, w.2)

    last-of : (k : ℕ) → IsOfOne steps (λ m. m ≡ lit) k → IsOfOne steps (Contains (lits ++ lit ∷ [])) k
    last-of k w = (w.0, subst (Contains (lits ++ lit ∷ [])) (sym w.1) (Contains-push lits lit), w.2)

module _ (s : TrailState) (trail : IsTrail s) (old new : Resolvent) (lit : Lit)
    (made : IsMadeBefore s.steps old.top (negated lit) ⊎ IsMadeAt s.steps old.top lit) (place : ℕ) (t : Step)
    (at : slice_get s.steps place ≡ Some t) (same : t.lit.var ≡ lit.var) where
  var-same : t.lit.var.0 ≡ lit.var.0
  var-same = ap (λ v. v.0) same

  -- what made the literal false stands at this place
  is-place : (m : Lit) → m ≡ lit → (k : ℕ) → IsMadeAt s.steps k (negated m) → place ≡ k
  is-place m e k w = trail.coherent.apart place k t w.0 at w.1 (var-same ∙ sym (variable-of w.0.lit (negated m) w.2
      ∙ variable-of m lit e))

  -- a literal whose step is not below the top is passed over
  pub gathers-past : old.top ≤ place → Gathers s.steps old (λ m. m ≡ lit) old
  gathers-past past = record {
    floor = refl;
    top = refl;
    marked = λ m e k lt w. let one : place ≡ k = is-place m e k w in absurd (omega (arith, one, lt, past));
    kept_upper = λ k h. h;
    kept_lower = λ k h. h;
    from_upper = λ k h. inl h;
    from_lower = λ k h. inl h;
  }

  -- the step there made the literal false
  of-this : {k : ℕ} → place ≡ k → place < old.top → IsOfOne s.steps (λ m. m ≡ lit) k
  of-this {k} e lt = (
    lit,
    refl,
    subst (λ (n : ℕ). IsMadeAt s.steps n (negated lit)) e
        (t, at, made-below s.values s.steps trail.coherent lit old.top place t made at var-same lt),
  )

  pub gathers-lower : new.floor ≡ old.floor → new.top ≡ old.top → new.upper ≡ old.upper
      → Inserts old.lower place new.lower → t.level < old.floor → place < old.top
      → Gathers s.steps old (λ m. m ≡ lit) new
  gathers-lower floor top upper lower lt below-top = record {
    floor = floor;
    top = top;
    marked = λ m e k below w. inr (subst (Contains new.lower) (is-place m e k w) lower.has);
    kept_upper = λ k h. subst (λ (ks : List ℕ). Contains ks k) (sym upper) h;
    kept_lower = λ k h. lower.kept k h;
    from_upper = λ k h. inl (subst (λ (ks : List ℕ). Contains ks k) upper h);
    from_lower = λ k h. ⊎_elim (λ o. inl o) (λ e. inr (
      subst (IsLower s.steps old.floor) e (t, at, lt),
      of-this e below-top,
    )) (lower.from k h);
  }

  reasoned : (o : Option ℕ) → t.reason ≡ o → (IsFixed s (negated lit) → ⊥) → place < old.top → t.level ≡ 0 → IsSome o
  reasoned (Some id) e unfixed lt flat = refl
  reasoned None e unfixed lt flat = absurd (unfixed (
    place,
    t,
    at,
    made-below s.values s.steps trail.coherent lit old.top place t made at var-same lt,
    flat,
    e,
  ))

  pub gathers-upper : new.floor ≡ old.floor → new.top ≡ old.top → new.lower ≡ old.lower
      → Inserts old.upper place new.upper → old.floor ≤ t.level → place < old.top
      → (IsFixed s (negated lit) → ⊥) → Gathers s.steps old (λ m. m ≡ lit) new
  gathers-upper floor top lower upper le lt unfixed = record {
    floor = floor;
    top = top;
    marked = λ m e k below w. inl (subst (Contains new.upper) (is-place m e k w) upper.has);
    kept_upper = λ k h. upper.kept k h;
    kept_lower = λ k h. subst (λ (ks : List ℕ). Contains ks k) (sym lower) h;
    from_upper = λ k h. ⊎_elim (λ o. inl o) (λ e. inr (
      subst (λ (n : ℕ). n < old.top) e lt,
      subst (IsUpper s.steps old.floor) e (t, at, le, reasoned t.reason refl unfixed lt),
      of-this e lt,
    ))
        (upper.from k h);
    from_lower = λ k h. inl (subst (λ (ks : List ℕ). Contains ks k) lower h);
  }
