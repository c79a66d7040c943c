-- Where all variables are assigned, and nothing that a log may cite is false, the assignment admits its literals.
use Rattle.std.proofs.Common.{◌≡◌, ℕ, suc, ◌+◌, ◌-◌, Bool, true, false, not, List, [], ◌∷◌, map, filter}
use Rattle.std.proofs.Common.{if◌then◌else◌, length, Option, Some, None, IfSome, refl, sym, ap, ◌∙◌, subst, inl, inr}
use Rattle.std.proofs.Common.{⊎_elim, ◌⊎◌, arith, All, Contains}
use Rattle.std.specs.Prelude.{slice_get}
use Rattle.std.proofs.lemmas.List.Elements.{All-nil, All-cons, All-head, All-tail, All-contains, All-weaker}
use Rattle.std.proofs.lemmas.List.Elements.{All-contains_itself}
use Rattle.std.proofs.lemmas.Option.{slice_get_within, get_or_from_slice_get}
use Rattle.kb_logic.specs.declared.syntax.AggKind.{AggKind}
use Rattle.kb_logic.specs.declared.syntax.Cmp.TheVariants as cmp
use Rattle.kb_logic.specs.Denotations.{Denotation, number, aggregate_value, compared}
use Rattle.lit_core.specs.declared.literals.Lit.{Lit}
use Rattle.lit_core.specs.Literals.{negated, by_sign, literal_value}
use Rattle.lit_core.specs.Truth.{IsSatisfied}
use Rattle.lit_core.specs.Refutation.{IsFalseUnder}
use Rattle.lit_core.proofs.LiteralFacts.{same_literal, decide_member}
use Rattle.lit_core.proofs.Soundness.{value-negated}
use Rattle.ground_core.specs.declared.parts.Part.{Part}
use Rattle.ground_core.specs.declared.parts.AggCon.{AggCon}
use Rattle.ground_core.specs.declared.parts.GroundTerm.{GroundTerm}
use Rattle.ground_core.specs.declared.parts.TermBound.{TermBound}
use Rattle.ground_core.specs.Problems.{ProblemState, IsLitOf, AreLitsOf, ArePartsOf, IsSumOf, IsTermOf, IsBoundOf}
use Rattle.ground_core.specs.Meaning.{MakesTrue, SumHolds, BoundHolds, parts_value, weights_of, term_value, shifted}
use Rattle.ground_core.specs.Meaning.{denotation_of_bound}
use Rattle.ground_core.specs.GateClauses.{clauses_of}
use Rattle.ground_core.proofs.Whole.{clauses-within}
use Rattle.derivation_log.specs.Steps.{literal, HasNoOpposites, may_be, MayCount, counted_weights, EachPossible}
use Rattle.derivation_log.specs.Steps.{SumCannotHold, BoundCannotHold, CannotHold}
use Rattle.log_checker.specs.Growing.{Checking}
use Rattle.log_checker.specs.Keeping.{IsKept}
use Rattle.log_checker.specs.Cases.{Admits, NoneIsFalse, NoneFails}
use Rattle.case_derivations.specs.Looking.{AreAssigned}
use Rattle.case_derivations.proofs.Lists.{get-front, get-contained}

abbrev is-left : {A B : Type 0} → A ⊎ B → Bool
is-left (inl a) = true
is-left (inr b) = false

left-true : {A : Type 0} (x : A ⊎ (A → ⊥)) → A → is-left x ≡ true
left-true (inl a) b = refl
left-true (inr n) b = absurd (n b)

left-false : {A : Type 0} (x : A ⊎ (A → ⊥)) → (A → ⊥) → is-left x ≡ false
left-false (inl a) n = absurd (n a)
left-false (inr m) n = refl

-- a variable is true where it is in force
abbrev pub assignment : List Lit → ℕ → Bool
assignment ls n = is-left (decide_member ls (literal n))

item-of : {X : Type 0} (P : X → Type 0) (xs : List X) (k : ℕ) (x : X) → All P xs → slice_get xs k ≡ Some x → P x
item-of P xs k x h is = All-contains P xs x h (k, slice_get_within xs k x is, get_or_from_slice_get xs k x x is)

module _ (ls : List Lit) (fine : HasNoOpposites ls) where
  abbrev v : ℕ → Bool
  v = assignment ls

  value-of : (l : Lit) (b : Bool) → l.positive ≡ b → Contains ls l → literal_value v l ≡ true
  value-of l true e h = ap (λ s. by_sign s (v l.var.0)) e ∙ left-true (decide_member ls (literal l.var.0))
      (subst (Contains ls) (same_literal l (literal l.var.0) refl e) h)
  value-of l false e h = ap (λ s. by_sign s (v l.var.0)) e ∙ ap not (left-false (decide_member ls (literal l.var.0))
      (λ k. fine l h (subst (Contains ls) (same_literal (literal l.var.0) (negated l) refl (sym (ap not e))) k)))

  in-force-true : (l : Lit) → Contains ls l → literal_value v l ≡ true
  in-force-true l h = value-of l l.positive refl h

  all-true : MakesTrue v ls
  all-true = All-weaker (Contains ls) (λ l. literal_value v l ≡ true) in-force-true ls (All-contains_itself ls)

  module _ (vars : ℕ) (all : AreAssigned vars ls) where
    sign-of : (l : Lit) (b : Bool) → l.positive ≡ b → IsLitOf vars l → Contains ls l ⊎ Contains ls (negated l)
    sign-of l true e h = subst (λ x. Contains ls x ⊎ Contains ls (negated x))
        (sym (same_literal l (literal l.var.0) refl e)) (all l.var.0 h.0 h.1)
    sign-of l false e h = ⊎_elim
        (λ x. inr (subst (Contains ls) (same_literal (literal l.var.0) (negated l) refl (sym (ap not e))) x))
        (λ x. inl (subst (Contains ls) (same_literal (negated (literal l.var.0)) l refl (sym e)) x))
        (all l.var.0 h.0 h.1)

    assigned : (l : Lit) → IsLitOf vars l → Contains ls l ⊎ Contains ls (negated l)
    assigned l h = sign-of l l.positive refl h

    pub true-in-force : (l : Lit) → IsLitOf vars l → literal_value v l ≡ true → Contains ls l
    true-in-force l h e = ⊎_elim (λ x. x)
        (λ x. absurd (let y : true ≡ not true = sym (in-force-true (negated l) x) ∙ value-negated v l ∙ ap not e in cc))
        (assigned l h)

    pub false-in-force : (l : Lit) → IsLitOf vars l → literal_value v l ≡ false → Contains ls (negated l)
    false-in-force l h e =
        ⊎_elim (λ x. absurd (let y : true ≡ false = sym (in-force-true l x) ∙ e in cc)) (λ x. x) (assigned l h)

    some-or-false : (c : List Lit) → AreLitsOf vars c → IsSatisfied v c ⊎ IsFalseUnder ls c
    some-or-false [] h = inr (All-nil (λ m. Contains ls (negated m)))
    some-or-false (l ∷ c) h =
        by_value (some-or-false c (All-tail (IsLitOf vars) l c h)) (literal_value v l) refl
      where
        by_value : (IsSatisfied v c ⊎ IsFalseUnder ls c) → (b : Bool) → literal_value v l ≡ b
            → IsSatisfied v (l ∷ c) ⊎ IsFalseUnder ls (l ∷ c)
        by_value r true e = inl (0, l, omega arith, refl, e)
        by_value r false e = ⊎_elim
            (λ s. inl (suc s.0, s.1, omega (arith, s.2), s.3, s.4))
            (λ n. inr (All-cons (λ m. Contains ls (negated m)) l c
            (false-in-force l (All-head (IsLitOf vars) l c h) e) n))
            r

    -- each part counts as the valuation says
    counts : (p : Part) (ps : List Part) (d : Bool) (ds : List Bool) → literal_value v p.lit ≡ d
        → counted_weights ps ds ≡ weights_of v ps → counted_weights (p ∷ ps) (d ∷ ds) ≡ weights_of v (p ∷ ps)
    counts p ps true ds e h = ap (λ ws. number p.weight ∷ ws) h
        ∙ ap (λ b. map (λ (q : Part). number q.weight) (if b then p ∷ filter (λ (q : Part). literal_value v q.lit) ps
        else filter (λ (q : Part). literal_value v q.lit) ps)) (sym e)
    counts p ps false ds e h = h
        ∙ ap (λ b. map (λ (q : Part). number q.weight) (if b then p ∷ filter (λ (q : Part). literal_value v q.lit) ps
        else filter (λ (q : Part). literal_value v q.lit) ps)) (sym e)

    as-said : (l : Lit) (d : Bool) → IsLitOf vars l → may_be ls l d → (b : Bool) → literal_value v l ≡ b → b ≡ d
    as-said l true h m true e = refl
    as-said l true h m false e = absurd (m (false-in-force l h e))
    as-said l false h m true e = absurd (m (true-in-force l h e))
    as-said l false h m false e = refl

    forced : (ps : List Part) (ds : List Bool) → ArePartsOf vars ps → MayCount ls ps ds
        → counted_weights ps ds ≡ weights_of v ps
    forced [] [] h m = refl
    forced [] (d ∷ ds) h m = absurd m
    forced (p ∷ ps) [] h m = absurd m
    forced (p ∷ ps) (d ∷ ds) h m =
        counts p ps d ds
        (as-said p.lit d (All-head (λ (q : Part). IsLitOf vars q.lit) p ps h) m.0 (literal_value v p.lit) refl)
        (forced ps ds (All-tail (λ (q : Part). IsLitOf vars q.lit) p ps h) m.1)

    each : (kind : AggKind) (ps : List Part) (P : Denotation → Type 0) → ArePartsOf vars ps → P (parts_value v kind ps)
        → EachPossible ls kind ps P
    each kind ps P h x = λ ds m. subst (λ ws. P (aggregate_value kind ws)) (sym (forced ps ds h m)) x

    sum-or-fails : (s : AggCon) → IsSumOf vars s → SumHolds v s ⊎ SumCannotHold ls s
    sum-or-fails s h = decide (literal_value v s.out)
        (compared cmp.Ge (parts_value v s.kind s.parts) (denotation_of_bound s.least)) refl refl
      where
        decide : (a b : Bool) → literal_value v s.out ≡ a
            → compared cmp.Ge (parts_value v s.kind s.parts) (denotation_of_bound s.least) ≡ b
            → SumHolds v s ⊎ SumCannotHold ls s
        decide true true e f = inl (e ∙ sym f)
        decide false false e f = inl (e ∙ sym f)
        decide true false e f = inr (inl (
          true-in-force s.out h.0 e,
          each s.kind s.parts (λ d. compared cmp.Ge d (denotation_of_bound s.least) ≡ false) h.1 f,
        ))
        decide false true e f = inr (inr (
          false-in-force s.out h.0 e,
          each s.kind s.parts (λ d. compared cmp.Ge d (denotation_of_bound s.least) ≡ true) h.1 f,
        ))

    below-or-fails : (b : TermBound) (t : GroundTerm) → IsLitOf vars b.out → IsTermOf vars t
        → literal_value v b.out ≡ true
        → (compared cmp.Lt (term_value v t) (denotation_of_bound b.below) ≡ true) ⊎ BoundCannotHold ls b t
    below-or-fails b t h k e = decide (compared cmp.Lt (term_value v t) (denotation_of_bound b.below)) refl
      where
        decide : (d : Bool) → compared cmp.Lt (term_value v t) (denotation_of_bound b.below) ≡ d
            → (compared cmp.Lt (term_value v t) (denotation_of_bound b.below) ≡ true) ⊎ BoundCannotHold ls b t
        decide true f = inl f
        decide false f = inr (
          true-in-force b.out h e,
          each t.kind t.parts (λ d. compared cmp.Lt (shifted t.base d) (denotation_of_bound b.below) ≡ false) k f,
        )

module _ (c : Checking) (ls : List Lit) (kept : IsKept c) (fine : HasNoOpposites ls)
    (all : AreAssigned c.state.vars ls) (none : NoneIsFalse c.state.clauses ls) (holds : NoneFails c ls) where
  abbrev p : ProblemState
  p = c.problem

  wider : (l : Lit) → IsLitOf p.vars l → IsLitOf c.state.vars l
  wider l h = (h.0, let x = h.1 in let y = kept.state.vars in omega (arith, x, y))

  lits-wider : (xs : List Lit) → AreLitsOf p.vars xs → AreLitsOf c.state.vars xs
  lits-wider xs h = All-weaker (IsLitOf p.vars) (IsLitOf c.state.vars) wider xs h

  parts-wider : (xs : List Part) → ArePartsOf p.vars xs → ArePartsOf c.state.vars xs
  parts-wider xs h = All-weaker (λ (q : Part). IsLitOf p.vars q.lit) (λ (q : Part). IsLitOf c.state.vars q.lit)
      (λ q x. wider q.lit x) xs h

  clause-holds : (d : List Lit) → Contains (clauses_of p) d → IsSatisfied (assignment ls) d
  clause-holds d h = ⊎_elim (λ x. x)
      (λ f. absurd (none (h.0 + 1) (
        d,
        (
          omega arith,
          ap (slice_get c.state.clauses) (let e : h.0 + 1 - 1 ≡ h.0 = omega arith in e)
              ∙ ap (λ cs. slice_get cs h.0) kept.state.clauses.1
              ∙ get-front (clauses_of p) kept.state.clauses.0 h.0 d (get-contained (clauses_of p) d h),
        ),
        f,
      )))
      (some-or-false ls fine c.state.vars all d
      (lits-wider d (All-contains (AreLitsOf p.vars) (clauses_of p) d (clauses-within p kept.problem) h)))

  fails-nowhere : (n : ℕ) → CannotHold p c.state ls n → ⊥
  fails-nowhere n k = holds (n + 1) (
    omega arith,
    subst (CannotHold p c.state ls)
        (let e : n ≡ n + 1 - 1 = omega arith in e) k,
  )

  sum-holds : (s : AggCon) → Contains p.sums s → SumHolds (assignment ls) s
  sum-holds s h = ⊎_elim (λ x. x)
      (λ f. absurd (fails-nowhere h.0 (inl (s, get-contained p.sums s h, f))))
      (let x = All-contains (IsSumOf p.vars) p.sums s kept.problem.sums h in
      sum-or-fails ls fine c.state.vars all s (wider s.out x.0, parts-wider s.parts x.1))

  bound-at : (b : TermBound) (k : ℕ) → slice_get c.state.bounds k ≡ Some b → literal_value (assignment ls) b.out ≡ true
      → (o : Option GroundTerm) → slice_get p.terms b.term ≡ o
      → IfSome o (λ t. compared cmp.Lt (term_value (assignment ls) t) (denotation_of_bound b.below) ≡ true)
  bound-at b k is e None f = tt
  bound-at b k is e (Some t) f = ⊎_elim (λ x. x)
      (λ x. absurd (fails-nowhere (length p.sums + k) (inr (k, refl, b, is, t, f, x))))
      (below-or-fails ls fine c.state.vars all b t
      (item-of (IsBoundOf c.state.vars p.terms) c.state.bounds k b kept.state.bounds is).0
      (parts-wider t.parts (item-of (IsTermOf p.vars) p.terms b.term t kept.problem.terms f)) e)

  bound-holds : (b : TermBound) → Contains c.state.bounds b → BoundHolds (assignment ls) p.terms b
  bound-holds b h e = bound-at b h.0 (get-contained c.state.bounds b h) e (slice_get p.terms b.term) refl

  pub admitted : Admits c ls (assignment ls)
  admitted = record {
    clauses = All-weaker (Contains (clauses_of p)) (IsSatisfied (assignment ls)) clause-holds (clauses_of p)
        (All-contains_itself (clauses_of p));
    sums = All-weaker (Contains p.sums) (SumHolds (assignment ls)) sum-holds p.sums (All-contains_itself p.sums);
    bounds = All-weaker (Contains c.state.bounds) (BoundHolds (assignment ls) p.terms) bound-holds c.state.bounds
        (All-contains_itself c.state.bounds);
    trues = all-true ls fine;
  }
