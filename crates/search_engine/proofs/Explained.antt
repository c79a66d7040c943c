-- Clauses that constraints imply, which were pushed.
use Rattle.std.proofs.Common.{◌≡◌, ℕ, ◌+◌, ◌<◌, ◌≤◌, Bool, true, false, Option, Some, None, List, [], ◌∷◌, ◌++◌}
use Rattle.std.proofs.Common.{length, take, slice_get, get_or, refl, sym, ap, ◌∙◌, subst, ◌⊎◌, inl, inr, ⊎_elim, arith}
use Rattle.std.proofs.Common.{All, Any, Contains}
use Rattle.std.specs.Global.{Vec}
use Rattle.std.specs.Prelude.{IsSome}
use Rattle.std.proofs.lemmas.List.{append-nil, length-set}
use Rattle.std.proofs.lemmas.List.Elements.{All-weaker}
use Rattle.std.proofs.lemmas.Option.{same_Some, slice_get_within}
use Rattle.lit_core.specs.declared.literals.Lit.{Lit}
use Rattle.lit_core.specs.Literals.{literal_value, negated, value_in}
use Rattle.lit_core.specs.Truth.{IsFalsified, IsSatisfied, IsUnitAt}
use Rattle.clause_store.specs.declared.trails.Step.{Step}
use Rattle.clause_store.specs.TrailState.{TrailState}
use Rattle.clause_store.specs.TrailLaws.{IsFixed, with_step}
use Rattle.clause_store.specs.StoreState.{StoreState, Implies, IsStore, IsConflict, IsEachOnceOf, Propagates}
use Rattle.clause_store.specs.StoreState.{with_clause, with_trail}
use Rattle.clause_store.proofs.ListFacts.{slice_get-push_new, slice_get-push_cases}
use Rattle.ground_core.specs.Problems.{ProblemState, IsLitOf, AreLitsOf}
use Rattle.ground_core.specs.Meaning.{Satisfies, SumHolds, BoundHolds}
use Rattle.ground_core.specs.GateClauses.{clauses_of}
use Rattle.search_engine.specs.declared.engine.Engine.{Engine}
use Rattle.search_engine.specs.Knowledge.{IsHeldAs, IsOfConstraint, Occurs, Knows}
use Rattle.search_engine.specs.Potential.{implied_of, Ahead}
use Rattle.search_engine.specs.Searching.{AreAssumed, AreClosed, AheadAt, Continues, IsExplained, IsOrderly, IsSearch}
use Rattle.search_engine.specs.Searching.{IsTurn, StandsAt, paid_of}
use Rattle.search_engine.proofs.Closing.{closed-later}
use Rattle.search_engine.proofs.DecideFacts.{room-for, same-but, with_passing, with_store}
use Rattle.search_engine.proofs.Known.{once-all, once-satisfied, zip-later}
use Rattle.search_engine.proofs.PassingFacts.{passing-pushed}
use Rattle.search_engine.proofs.Pushed.{front-push, front-refl, held-later}
use Rattle.search_engine.proofs.Standing.{step-ahead}
use Rattle.search_engine.proofs.TrailChange.{bits-append}
use Rattle.search_engine.proofs.TurnFacts.{prop-search, prop-turn}

-- what one constraint implies, the problem does
pub constraint-satisfied : (p : ProblemState) (c : List Lit) → IsOfConstraint p c → (v : ℕ → Bool) → Satisfies p v
    → IsSatisfied v c
constraint-satisfied p c way v s = ⊎_elim
    (λ (w : Any (λ s. (v : ℕ → Bool) → SumHolds v s → IsSatisfied v c) p.sums).
    w.4 v (subst (SumHolds v) w.3 (s.sums w.0 w.1 w.2)))
    (λ (r : Any (λ b. (v : ℕ → Bool) → BoundHolds v p.terms b → IsSatisfied v c) p.bounds ⊎ Any (λ l. (v : ℕ → Bool)
    → literal_value v l ≡ false → IsSatisfied v c) p.retired). ⊎_elim
    (λ (w : Any (λ b. (v : ℕ → Bool) → BoundHolds v p.terms b → IsSatisfied v c) p.bounds).
    w.4 v (subst (BoundHolds v p.terms) w.3 (s.bounds w.0 w.1 w.2)))
    (λ (w : Any (λ l. (v : ℕ → Bool) → literal_value v l ≡ false → IsSatisfied v c) p.retired).
    w.4 v (subst (λ l. literal_value v l ≡ false) w.3 (s.retired w.0 w.1 w.2)))
    r)
    way

-- a clause with the same literals is one of the same constraint
once-constraint : (p : ProblemState) (c k : List Lit) → IsEachOnceOf c k → IsOfConstraint p c → IsOfConstraint p k
once-constraint p c k once way = ⊎_elim
    (λ (w : Any (λ s. (v : ℕ → Bool) → SumHolds v s → IsSatisfied v c) p.sums).
    inl (w.0, w.1, w.2, w.3, λ v holds. once-satisfied v c k once (w.4 v holds)))
    (λ (r : Any (λ b. (v : ℕ → Bool) → BoundHolds v p.terms b → IsSatisfied v c) p.bounds ⊎ Any (λ l. (v : ℕ → Bool)
    → literal_value v l ≡ false → IsSatisfied v c) p.retired). inr (⊎_elim
    (λ (w : Any (λ b. (v : ℕ → Bool) → BoundHolds v p.terms b → IsSatisfied v c) p.bounds).
    inl (w.0, w.1, w.2, w.3, λ v holds. once-satisfied v c k once (w.4 v holds)))
    (λ (w : Any (λ l. (v : ℕ → Bool) → literal_value v l ≡ false → IsSatisfied v c) p.retired).
    inr (w.0, w.1, w.2, w.3, λ v holds. once-satisfied v c k once (w.4 v holds)))
    r))
    way

-- such a clause was pushed
pub known-explained : (p : ProblemState) (learnt : List (List Lit)) (ids : List ℕ) (cl : List (Option (List Lit)))
    (c k : List Lit) → Knows p learnt ids cl → IsExplained p c → IsEachOnceOf c k
    → Knows p learnt ids (cl ++ Some k ∷ [])
known-explained p learnt ids cl c k h why once = record {
  implied = λ v s id j e. ⊎_elim
      (λ o. h.implied v s id j o)
      (λ n. subst (IsSatisfied v) (sym (same_Some j k n.1))
      (once-satisfied v c k once (constraint-satisfied p c why.constraint v s)))
      (slice_get-push_cases cl (Some k) id (Some j) e);
  within = λ id j e. ⊎_elim
      (λ o. h.within id j o)
      (λ n. subst (AreLitsOf p.vars) (sym (same_Some j k n.1)) (once-all (IsLitOf p.vars) c k once why.within))
      (slice_get-push_cases cl (Some k) id (Some j) e);
  from = λ id j e. ⊎_elim
      (λ o. h.from id j o)
      (λ n. inr (inr (subst (IsOfConstraint p) (sym (same_Some j k n.1)) (once-constraint p c k once why.constraint))))
      (slice_get-push_cases cl (Some k) id (Some j) e);
  problem = All-weaker (λ d. (id : ℕ) × IsHeldAs cl id d × (Contains ids id → ⊥))
      (λ d. (id : ℕ) × IsHeldAs (cl ++ Some k ∷ []) id d × (Contains ids id → ⊥))
      (λ d w. (w.0, held-later cl (cl ++ Some k ∷ []) (front-push cl (Some k)) w.0 d w.1, w.2))
      (clauses_of p) h.problem;
  occurs = λ id j e. ⊎_elim
      (λ o. h.occurs id j o)
      (λ n. subst (All (Occurs p)) (sym (same_Some j k n.1)) (once-all (Occurs p) c k once why.occurs))
      (slice_get-push_cases cl (Some k) id (Some j) e);
  learnt_held = zip-later cl (cl ++ Some k ∷ []) (front-push cl (Some k)) ids learnt h.learnt_held;
}

-- before it is pushed
module _ (e : Engine) (h : IsSearch e) (c : List Lit) (why : IsExplained e.problem c) where
  pub explained-range : All (λ (l : Lit). l.var.0 < length e.store.trail.values) c
  explained-range = All-weaker (IsLitOf e.problem.vars) (λ (l : Lit). l.var.0 < length e.store.trail.values)
      (λ l is. let high : l.var.0 ≤ e.problem.vars = is.1 in let sized : e.problem.vars < length e.store.trail.values =
      h.engine.sized in omega (arith, high, sized)) c why.within

  nothing-fixed : (l : Lit) → IsFixed e.store.trail l → ⊥
  nothing-fixed l w = let up : 0 < w.1.level = h.orderly.decided w.0 w.1 w.2 w.5 in let zero-is : w.1.level ≡ 0 = w.4 in
      omega (arith, up, zero-is)

  pub explained-unopposed : All (λ l. IsFixed e.store.trail (negated l) → ⊥) c
  explained-unopposed = λ k d lt w. nothing-fixed (negated (get_or c k d)) w

-- after it is pushed
module _ (e : Engine) (h : IsSearch e) (c k : List Lit) (s : StoreState) (why : IsExplained e.problem c)
    (once : IsEachOnceOf c k) (is : s ≡ with_clause e.store k) (laws : IsStore s) (p : Vec ℕ)
    (noted : p.items ≡ e.passing.items ++ length e.store.clauses ∷ []) where
  abbrev explained : Engine
  explained = with_passing (with_store e s) p

  same-trail : s.trail ≡ e.store.trail
  same-trail = ap (λ (x : StoreState). x.trail) is

  more-clauses : s.clauses ≡ e.store.clauses ++ Some k ∷ []
  more-clauses = ap (λ (x : StoreState). x.clauses) is

  pub search-explained : IsSearch explained
  search-explained = record {
    engine = record {
      problem = h.engine.problem;
      within = h.engine.within;
      closed = subst (λ (cl : List (Option (List Lit))). AreClosed cl e.ids.items (take e.closed e.problem.retired))
          (sym more-clauses) (closed-later e.store.clauses (e.store.clauses ++ Some k ∷ []) e.ids.items
          (take e.closed e.problem.retired) (front-push e.store.clauses (Some k)) h.engine.closed);
      learnt = h.engine.learnt;
      knows = subst (Knows e.problem e.learnt e.ids.items) (sym more-clauses)
          (known-explained e.problem e.learnt e.ids.items e.store.clauses c k h.engine.knows why once);
      store = laws;
      sized = subst (λ (t : TrailState). e.problem.vars < length t.values) (sym same-trail) h.engine.sized;
    };
    orderly = subst (λ (t : TrailState). IsOrderly e.problem.vars t.steps) (sym same-trail) h.orderly;
    counted = h.counted;
    fewer = h.fewer;
    once = h.once;
    closed = h.closed;
    passing = passing-pushed e explained k h.passing h.engine.knows.learnt_held refl refl refl noted more-clauses;
  }

  held-there : slice_get s.clauses (length e.store.clauses) ≡ Some (Some k)
  held-there = ap (λ (xs : List (Option (List Lit))). slice_get xs (length e.store.clauses)) more-clauses
      ∙ slice_get-push_new e.store.clauses (Some k)

  pub conflict-explained : IsFalsified e.store.trail.values c → IsConflict s (length e.store.clauses)
  conflict-explained falsified = (
    k,
    held-there,
    subst (λ (t : TrailState). IsFalsified t.values k) (sym same-trail)
        (once-all (λ l. value_in e.store.trail.values l ≡ Some false) c k once falsified),
  )

  pub unit-explained : (l : Lit) → IsUnitAt e.store.trail.values c l → Implies s (length e.store.clauses) l
  unit-explained l unit = record {
    clause = k;
    held = held-there;
    member = once.all l unit.member;
    others = subst (λ (t : TrailState). All (λ m. (m ≡ l) ⊎ (value_in t.values m ≡ Some false)) k) (sym same-trail)
        (once-all (λ m. (m ≡ l) ⊎ (value_in e.store.trail.values m ≡ Some false)) c k once unit.others);
  }

  pub turn-explained : (assume : List Lit) → IsTurn assume e → IsTurn assume explained
  turn-explained assume t = record {
    decisions = subst (λ (u : TrailState). AreAssumed assume u.steps) (sym same-trail) t.decisions;
    trues = subst (λ (u : TrailState). All (λ l. value_in u.values l ≡ Some true) (take e.assumed assume))
        (sym same-trail) t.trues;
  }

  pub ahead-explained : (goal : ℕ) → AheadAt e goal → AheadAt explained goal
  ahead-explained goal a = subst (λ (t : TrailState). Ahead e.problem.vars (implied_of t.steps) (paid_of e) goal)
      (sym same-trail) a

  pub stands-explained : (goal : ℕ) → AheadAt e goal → StandsAt explained goal
  stands-explained goal a = inl (ahead-explained goal a)

  pub continues-explained : Continues e explained
  continues-explained = record {
    problem = refl;
    searches = refl;
    known = refl;
    base = refl;
    learnt =
        front-refl e.learnt;
    now = (0, omega arith, sym (append-nil e.moments.items));
  }

-- one literal more follows by a clause
module _ (e : Engine) (h : IsSearch e) (t : Step) (id : ℕ) (s : StoreState)
    (is : s ≡ with_trail e.store (with_step e.store.trail t)) (laws : IsStore s) (reason : t.reason ≡ Some id)
    (level : t.level ≡ e.store.trail.level) where
  abbrev further : Engine
  further = with_store e s

  steps-are : s.trail.steps ≡ e.store.trail.steps ++ t ∷ []
  steps-are = ap (λ (x : StoreState). x.trail.steps) is

  some-reason : (o : Option ℕ) → o ≡ Some id → IsSome o
  some-reason None e = cc
  some-reason (Some i) e = refl

  propagated : Propagates e.store s
  propagated = record {
    clauses = ap (λ (x : StoreState). x.clauses) is;
    spare = ap (λ (x : StoreState). x.spare) is;
    level = ap (λ (x : StoreState). x.trail.level) is ∙ level;
    size = ap (λ (x : StoreState). length x.trail.values) is ∙ length-set e.store.trail.values t.lit.var.0
        (Some t.lit.positive);
    kept = front-push e.store.trail.steps t ∙ ap (take (length e.store.trail.steps)) (sym steps-are);
    reasoned = λ k u past at. ⊎_elim
        (λ o. let lt : k < length e.store.trail.steps = slice_get_within e.store.trail.steps k u o in
        absurd (omega (arith, past, lt)))
        (λ n. subst (λ (x : Step). IsSome x.reason × (x.level ≡ e.store.trail.level)) (sym n.1)
        (some-reason t.reason reason, level))
        (slice_get-push_cases e.store.trail.steps t k u (ap (λ (xs : List Step). slice_get xs k) (sym steps-are) ∙ at));
  }

  pub further-search : IsSearch further
  further-search = prop-search e further (same-but e s) h propagated laws

  pub further-turn : (assume : List Lit) → IsTurn assume e → IsTurn assume further
  further-turn assume turn = prop-turn e further (same-but e s) h propagated laws assume turn

  further-bit : implied_of (t ∷ []) ≡ true ∷ []
  further-bit = rw reason refl

  bits-are : implied_of s.trail.steps ≡ implied_of e.store.trail.steps ++ true ∷ []
  bits-are = ap implied_of steps-are ∙ (bits-append e.store.trail.steps (t ∷ [])
      ∙ ap (λ bs. implied_of e.store.trail.steps ++ bs) further-bit)

  pub further-goes : (goal : ℕ) → AheadAt e goal → AheadAt further (goal + 1)
  further-goes goal a =
      let r = room-for further further-search in
      let fits : length (implied_of e.store.trail.steps ++ true ∷ []) + r.0 ≡ e.problem.vars =
      ap (λ bs. length bs + r.0) (sym bits-are) ∙ r.1 in
      let here : Ahead e.problem.vars (implied_of e.store.trail.steps ++ true ∷ []) (paid_of e) (goal + 1) =
      step-ahead e.problem.vars (implied_of e.store.trail.steps) (paid_of e) goal r.0 fits a in
      subst (λ bs. Ahead e.problem.vars bs (paid_of e) (goal + 1)) (sym bits-are) here
