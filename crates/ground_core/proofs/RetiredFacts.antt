-- What a retired selector leaves, and what additions leave of answers.
use Rattle.std.proofs.Common.{◌≡◌, ℕ, Bool, true, false, not, List, [], ◌∷◌, ◌++◌, slice_get, Some, All, Contains}
use Rattle.std.proofs.Common.{get_or}
use Rattle.std.proofs.Common.{refl, sym, ap, ◌∙◌, subst, ⊎_elim, ◌⊎◌, inl, inr, IfSome}
use Rattle.std.proofs.lemmas.Bool.{cases_eq, both_ways}
use Rattle.std.proofs.lemmas.List.Elements.{All-contains, All-push, Contains-push, Contains-get_or}
use Rattle.kb_logic.specs.declared.syntax.Cmp.TheVariants as cmp
use Rattle.kb_logic.specs.Denotations.{compared}
use Rattle.lit_core.specs.declared.literals.Lit.{Lit}
use Rattle.lit_core.specs.Literals.{by_sign, literal_value, negated}
use Rattle.lit_core.specs.Truth.{IsSatisfied}
use Rattle.lit_core.specs.Freshness.{IsFreshAt}
use Rattle.lit_core.proofs.LiteralFacts.{decide_literal, negated-differs, negated-negated, same_literal}
use Rattle.ground_core.specs.declared.parts.GroundTerm.{GroundTerm}
use Rattle.ground_core.specs.declared.parts.Part.{Part}
use Rattle.ground_core.specs.declared.parts.TermBound.{TermBound}
use Rattle.ground_core.specs.Problems.{ProblemState, AreLitsOf}
use Rattle.ground_core.specs.Meaning.{BoundHolds, Satisfies, term_value, denotation_of_bound}
use Rattle.ground_core.specs.Growing.{IsApart, IsSelector, with_retired}
use Rattle.ground_core.specs.Selectors.{AreSelectors}
use Rattle.ground_core.specs.Laws.{AdditionsChangeNoAnswer, FreshClausesAreNoTautologies, IsMadeFalse}
use Rattle.ground_core.specs.Laws.{RetirementsRestrict}
use Rattle.ground_core.proofs.GrowthFacts.{item-of, retired-restricts}
use Rattle.ground_core.proofs.Locals.{literal-local}
use Rattle.ground_core.proofs.SameValues.{below-same, gate-same, sum-same}

other-sign : (a b : Bool) → (a ≡ b → ⊥) → a ≡ not b
other-sign true true n = absurd (n refl)
other-sign true false n = refl
other-sign false true n = refl
other-sign false false n = absurd (n refl)

-- a variable has two literals
other-literal : (k l : Lit) → k.var.0 ≡ l.var.0 → (k ≡ l → ⊥) → k ≡ negated l
other-literal k l e n = same_literal k (negated l) e (other-sign k.positive l.positive (λ f. n (same_literal k l e f)))

opposite : (s b : Bool) → by_sign s b ≡ false → by_sign (not s) b ≡ true
opposite true true e = absurd (both_ways true e refl)
opposite true false e = refl
opposite false true e = refl
opposite false false e = absurd (both_ways true e refl)

module _ (p : ProblemState) (l : Lit) (is : IsSelector p l) (v w : ℕ → Bool) (m : IsMadeFalse l v w) where
  same-value : (k : Lit) → IsApart l k → literal_value v k ≡ literal_value w k
  same-value k far = sym (ap (by_sign k.positive) (m.others k.var.0 far))

  still-satisfied : (c : List Lit) → (Contains c l → ⊥) → IsSatisfied v c → IsSatisfied w c
  still-satisfied c none s = (
    s.0,
    s.1,
    s.2,
    s.3,
    ⊎_elim
        (λ e. ⊎_elim
        (λ f. absurd (none (subst (Contains c) f (s.0, s.2, s.3))))
        (λ n. ap (literal_value w) (other-literal s.1 l e n) ∙ opposite l.positive (w l.var.0) m.made)
        (decide_literal s.1 l))
        (λ far. sym (same-value s.1 far) ∙ s.4)
        (cases_eq s.1.var.0 l.var.0),
  )

  still-bounded : (b : TermBound) → (b.out.var.0 ≡ l.var.0 → b.out ≡ l) → BoundHolds v p.terms b
      → BoundHolds w p.terms b
  still-bounded b own s = λ on. ⊎_elim
      (λ e. absurd (both_ways (literal_value w l) m.made (ap (literal_value w) (sym (own e)) ∙ on)))
      (λ far. below-same (IsApart l) v w same-value b (slice_get p.terms b.term)
      (λ t at. item-of (λ (u : GroundTerm). All (λ (x : Part). IsApart l x.lit) u.parts) p.terms b.term t is.terms at)
      (s (same-value b.out far ∙ on)))
      (cases_eq b.out.var.0 l.var.0)

  still-false : AreSelectors p.retired → (k : Lit) → Contains p.retired k → literal_value v k ≡ false
      → literal_value w k ≡ false
  still-false gone k has off = ⊎_elim
      (λ e. ap (literal_value w) (same_literal k l e (All-contains (λ (r : Lit). r.positive ≡ true) p.retired k
      gone.positive has ∙ sym is.positive)) ∙ m.made)
      (λ far. sym (same-value k far) ∙ off)
      (cases_eq k.var.0 l.var.0)

  still-satisfies : AreSelectors p.retired → Satisfies p v → Satisfies (with_retired p l) w
  still-satisfies gone s = record {
    gates = λ k d lt. gate-same (IsApart l) v w same-value (get_or p.gates k d) (is.gates k d lt).0
        (is.gates k d lt).1 (s.gates k d lt);
    clauses = λ k d lt. still-satisfied (get_or p.clauses k d) (is.clauses k d lt) (s.clauses k d lt);
    sums = λ k d lt. sum-same (IsApart l) v w same-value (get_or p.sums k d) (is.sums k d lt).0 (is.sums k d lt).1
        (s.sums k d lt);
    bounds = λ k d lt. still-bounded (get_or p.bounds k d) (is.bounds k d lt) (s.bounds k d lt);
    retired = All-push (λ k. literal_value w k ≡ false) p.retired l
        (λ k d lt. still-false gone (get_or p.retired k d) (Contains-get_or p.retired k d lt) (s.retired k d lt))
        m.made;
  }

pub retirement-restricts : RetirementsRestrict
retirement-restricts p l is gone = record {
  extends = λ v w s m. still-satisfies p l is v w m gone s;
  restricts = λ v s. (
    retired-restricts p l v s,
    All-contains (λ k. literal_value v k ≡ false) (p.retired ++ l ∷ []) l s.retired (Contains-push p.retired l),
  );
}

pub no-answer-changes : AdditionsChangeNoAnswer
no-answer-changes p q ls c lits = (
  (λ none v s t. none v (c.restricts v s) t),
  (λ none v s t.
      let e = c.extends v s in
      none e.0 e.3 (λ k d lt. sym (literal-local p.vars v e.0 e.1 (get_or ls k d) (lits k d lt)) ∙ t k d lt)),
)

-- the negation of each literal but one is in force, and that one is open
fresh-alone : (cs : List (List Lit)) (c : List Lit) (o l : Lit) → IsFreshAt cs c o → Contains c l
    → Contains c (negated l) → (l ≡ o → ⊥) → ⊥
fresh-alone cs c o l f has other apart =
    let against : Contains f.inforce (negated l) = ⊎_elim (λ e. absurd (apart e)) (λ h. h) (f.others l has) in
    ⊎_elim
    (λ e. f.opened.0 (subst (Contains f.inforce) e against))
    (λ h. f.consistent l (subst (Contains f.inforce) (negated-negated l) h) against)
    (f.others (negated l) other)

pub fresh-no-tautology : FreshClausesAreNoTautologies
fresh-no-tautology cs c l f has other = ⊎_elim
    (λ e. fresh-alone cs c f.0 (negated l) f.1 other (subst (Contains c) (sym (negated-negated l)) has)
    (λ g. negated-differs l (e ∙ sym g)))
    (λ n. fresh-alone cs c f.0 l f.1 has other n)
    (decide_literal l f.0)
