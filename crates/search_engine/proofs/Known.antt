-- How what a solver holds changes.
use Rattle.std.proofs.Common.{◌≡◌, ℕ, suc, zero, ◌+◌, ◌<◌, ◌≤◌, Bool, false, not, Option, Some, List, [], ◌∷◌, ◌++◌}
use Rattle.std.proofs.Common.{length, take, flat_map, slice_get, get_or, refl, sym, ap, ◌∙◌, subst, ◌⊎◌, inl, inr}
use Rattle.std.proofs.Common.{⊎_elim, arith, All, Any, Contains, append_assoc}
use Rattle.std.specs.List.{AllZip}
use Rattle.std.proofs.lemmas.Bool.{cases_lt}
use Rattle.std.proofs.lemmas.List.Elements.{All-nil, All-cons, All-push, All-weaker, All-contains, Contains-get_or}
use Rattle.std.proofs.lemmas.List.Elements.{Contains-append_left, Contains-push, Contains-push_cases}
use Rattle.std.proofs.lemmas.Option.{slice_get_within, same_Some}
use Rattle.lit_core.specs.declared.literals.Lit.{Lit}
use Rattle.lit_core.specs.Literals.{literal_value, negated}
use Rattle.lit_core.specs.Truth.{IsSatisfied}
use Rattle.lit_core.proofs.Soundness.{value-negated}
use Rattle.lit_core.proofs.LiteralFacts.{Contains-cons_cases, nothing_in_none}
use Rattle.clause_store.specs.StoreState.{IsEachOnceOf}
use Rattle.clause_store.proofs.ListFacts.{slice_get-push_new, slice_get-push_cases}
use Rattle.ground_core.specs.Problems.{ProblemState, IsProblem, IsLitOf, AreLitsOf}
use Rattle.ground_core.specs.declared.parts.GroundTerm.{GroundTerm}
use Rattle.ground_core.specs.declared.parts.Part.{Part}
use Rattle.ground_core.specs.declared.parts.TermBound.{TermBound}
use Rattle.ground_core.specs.Meaning.{Satisfies, SumHolds, BoundHolds}
use Rattle.ground_core.specs.Growing.{with_retired}
use Rattle.ground_core.specs.Solving.{Entails}
use Rattle.ground_core.specs.GateClauses.{clauses_of, gate_clauses}
use Rattle.ground_core.proofs.Fronts.{All-front}
use Rattle.ground_core.proofs.Whole.{clauses-satisfied, clauses-within}
use Rattle.kept_problem.specs.Joining.{joined_problem, with_selected, CanJoin}
use Rattle.search_engine.specs.Knowledge.{IsHeldAs, IsOneOf, IsOfConstraint, IsOfSum, IsConstrained, Occurs, Knows}
use Rattle.search_engine.specs.Knowledge.{Pushes}
use Rattle.kept_problem.proofs.JoinLaws.{lits-wider}
use Rattle.search_engine.proofs.Joined.{joined-first, joined-second, joined-all, joined-has-first, joined-has-second}
use Rattle.search_engine.proofs.Joined.{joined-constraint, joined-occurs}
use Rattle.search_engine.proofs.Pushed.{front-back, front-push, held-later, held-from-each}

-- the same literals have the same truth
pub once-satisfied : (v : ℕ → Bool) (c k : List Lit) → IsEachOnceOf c k → IsSatisfied v c → IsSatisfied v k
once-satisfied v c k once w = let has = once.all w.1 (w.0, w.2, w.3) in (has.0, w.1, has.1, has.2, w.4)

pub once-satisfied-back : (v : ℕ → Bool) (c k : List Lit) → IsEachOnceOf c k → IsSatisfied v k → IsSatisfied v c
once-satisfied-back v c k once w = let has = once.from w.1 (w.0, w.2, w.3) in (has.0, w.1, has.1, has.2, w.4)

-- what holds of all literals of a clause holds of all of one with the same literals
pub once-all : (P : Lit → Type 0) (c k : List Lit) → IsEachOnceOf c k → All P c → All P k
once-all P c k once h i d lt =
    let has : Contains k (get_or k i d) = (i, lt, get_or-same k i d lt) in
    All-contains P c (get_or k i d) h (once.from (get_or k i d) has)
  where
    get_or-same : (xs : List Lit) (j : ℕ) (e : Lit) → j < length xs → get_or xs j (get_or xs j e) ≡ get_or xs j e
    get_or-same [] j e l = absurd (omega arith)
    get_or-same (x ∷ xs) zero e l = refl
    get_or-same (x ∷ xs) (suc j) e l = get_or-same xs j e (omega arith)

-- the numbers of the learnt clauses are below the number of clauses
pub ids-within : (cl : List (Option (List Lit))) (ids : List ℕ) (learnt : List (List Lit))
    → AllZip (IsHeldAs cl) ids learnt → (id : ℕ) → Contains ids id → id < length cl
ids-within cl [] [] z id has = absurd (nothing_in_none id has)
ids-within cl [] (c ∷ cs) z id has = absurd z
ids-within cl (i ∷ ids) [] z id has = absurd z
ids-within cl (i ∷ ids) (c ∷ cs) z id has = ⊎_elim
    (λ e. let w = z.0 in let lt : i < length cl = slice_get_within cl i (Some w.0) w.1 in
    subst (λ n. n < length cl) e lt)
    (λ more. ids-within cl ids cs z.1 id more)
    (Contains-cons_cases i ids id has)

pub zip-later : (a b : List (Option (List Lit))) → a ≡ take (length a) b → (ids : List ℕ) (learnt : List (List Lit))
    → AllZip (IsHeldAs a) ids learnt → AllZip (IsHeldAs b) ids learnt
zip-later a b f [] [] z = tt
zip-later a b f [] (c ∷ cs) z = z
zip-later a b f (i ∷ ids) [] z = z
zip-later a b f (i ∷ ids) (c ∷ cs) z = (held-later a b f i c z.0, zip-later a b f ids cs z.1)

pub zip-push : (cl : List (Option (List Lit))) (ids : List ℕ) (learnt : List (List Lit)) (id : ℕ) (c : List Lit)
    → AllZip (IsHeldAs cl) ids learnt → IsHeldAs cl id c → AllZip (IsHeldAs cl) (ids ++ id ∷ []) (learnt ++ c ∷ [])
zip-push cl [] [] id c z h = (h, tt)
zip-push cl [] (d ∷ cs) id c z h = absurd z
zip-push cl (i ∷ ids) [] id c z h = absurd z
zip-push cl (i ∷ ids) (d ∷ cs) id c z h = (z.0, zip-push cl ids cs id c z.1 h)

-- the clauses of another problem were pushed
module _ (p q : ProblemState) (learnt : List (List Lit)) (ids : List ℕ) (cl new : List (Option (List Lit)))
    (h : Knows p learnt ids cl) (pushed : Pushes cl new (clauses_of q)) (fine : IsProblem p)
    (more-bounds : q.bounds ≡ []) (can : CanJoin p q) (laws : IsProblem q) where
  abbrev both : ProblemState
  both = joined_problem p q

  added-implied : (v : ℕ → Bool) → Satisfies both v → (id : ℕ) (k : List Lit) → slice_get new id ≡ Some (Some k)
      → IsSatisfied v k
  added-implied v s id k e = ⊎_elim
      (λ lt. h.implied v (joined-first p q fine more-bounds v s) id k (front-back cl new pushed.front id (Some k) lt e))
      (λ ge. let w = pushed.from id k ge e in once-satisfied v w.0 k w.2
      (All-contains (IsSatisfied v) (clauses_of q) w.0 (clauses-satisfied q v
      (joined-second p q fine more-bounds can v s)) w.1))
      (cases_lt id (length cl))

  added-within : (id : ℕ) (k : List Lit) → slice_get new id ≡ Some (Some k) → AreLitsOf q.vars k
  added-within id k e = ⊎_elim
      (λ lt. lits-wider p.vars q.vars can.vars k (h.within id k (front-back cl new pushed.front id (Some k) lt e)))
      (λ ge. let w = pushed.from id k ge e in once-all (IsLitOf q.vars) w.0 k w.2
      (All-contains (AreLitsOf q.vars) (clauses_of q) w.0 (clauses-within q laws) w.1))
      (cases_lt id (length cl))

  added-from : (id : ℕ) (k : List Lit) → slice_get new id ≡ Some (Some k)
      → Contains ids id ⊎ (IsOneOf (clauses_of both) k ⊎ IsOfConstraint both k)
  added-from id k e = ⊎_elim
      (λ lt. ⊎_elim (λ has. inl has) (λ way. inr (⊎_elim (λ w. inl (w.0, joined-has-first p q w.0 w.1, w.2))
      (λ w. inr (joined-constraint p q fine k w)) way)) (h.from id k
      (front-back cl new pushed.front id (Some k) lt e)))
      (λ ge. let w = pushed.from id k ge e in inr (inl (w.0, joined-has-second p q w.0 w.1, w.2)))
      (cases_lt id (length cl))

  added-occurs : (id : ℕ) (k : List Lit) → slice_get new id ≡ Some (Some k) → All (Occurs both) k
  added-occurs id k e = ⊎_elim
      (λ lt. All-weaker (Occurs p) (Occurs both) (joined-occurs p q) k
      (h.occurs id k (front-back cl new pushed.front id (Some k) lt e)))
      (λ ge. let w = pushed.from id k ge e in let has = joined-has-second p q w.0 w.1 in
      once-all (Occurs both) w.0 k w.2 (λ i d lt. inl (has.0, w.0, has.1, has.2, Contains-get_or w.0 i d lt)))
      (cases_lt id (length cl))

  abbrev Apart : List Lit → Type 0
  Apart c = (id : ℕ) × IsHeldAs new id c × (Contains ids id → ⊥)

  old-apart : (c : List Lit) → ((id : ℕ) × IsHeldAs cl id c × (Contains ids id → ⊥)) → Apart c
  old-apart c w = (w.0, held-later cl new pushed.front w.0 c w.1, w.2)

  new-apart : (c : List Lit) → ((id : ℕ) × (length cl ≤ id) × IsHeldAs new id c) → Apart c
  new-apart c w = (
    w.0,
    w.2,
    λ has. let lt : w.0 < length cl = ids-within cl ids learnt h.learnt_held w.0 has in
        let ge : length cl ≤ w.0 = w.1 in omega (arith, lt, ge),
  )

  pub known-added : Knows both learnt ids new
  known-added = record {
    implied = added-implied;
    within = added-within;
    from = added-from;
    occurs = added-occurs;
    problem = joined-all p q Apart
        (All-weaker (λ c. (id : ℕ) × IsHeldAs cl id c × (Contains ids id → ⊥)) Apart old-apart (clauses_of p) h.problem)
        (held-from-each Apart new (length cl) (clauses_of q) (λ n c le x. new-apart c (n, le, x)) pushed.held);
    learnt_held = zip-later cl new pushed.front ids learnt h.learnt_held;
  }

-- a learnt clause was pushed
module _ (p : ProblemState) (learnt : List (List Lit)) (ids : List ℕ) (cl : List (Option (List Lit))) (c k : List Lit)
    (h : Knows p learnt ids cl) (entailed : Entails p c) (lits : AreLitsOf p.vars c) (occurs : All (Occurs p) c)
    (once : IsEachOnceOf c k) where
  abbrev more : List (Option (List Lit))
  more = cl ++ Some k ∷ []

  abbrev more-ids : List ℕ
  more-ids = ids ++ length cl ∷ []

  learnt-apart : (d : List Lit) → ((id : ℕ) × IsHeldAs cl id d × (Contains ids id → ⊥)) → (id : ℕ) × IsHeldAs more id d
      × (Contains more-ids id → ⊥)
  learnt-apart d w =
      let lt : w.0 < length cl = slice_get_within cl w.0 (Some w.1.0) w.1.1 in (
        w.0,
        held-later cl more (front-push cl (Some k)) w.0 d w.1,
        λ has. ⊎_elim (λ o. w.2 o) (λ (e : length cl ≡ w.0). omega (arith, lt, e))
            (Contains-push_cases ids (length cl) w.0 has),
      )

  pub known-learnt : Knows p (learnt ++ c ∷ []) more-ids more
  known-learnt = record {
    implied = λ v s id j e. ⊎_elim
        (λ o. h.implied v s id j o)
        (λ n. subst (IsSatisfied v) (sym (same_Some j k n.1)) (once-satisfied v c k once (entailed v s)))
        (slice_get-push_cases cl (Some k) id (Some j) e);
    within = λ id j e. ⊎_elim
        (λ o. h.within id j o)
        (λ n. subst (AreLitsOf p.vars) (sym (same_Some j k n.1)) (once-all (IsLitOf p.vars) c k once lits))
        (slice_get-push_cases cl (Some k) id (Some j) e);
    occurs = λ id j e. ⊎_elim
        (λ o. h.occurs id j o)
        (λ n. subst (All (Occurs p)) (sym (same_Some j k n.1)) (once-all (Occurs p) c k once occurs))
        (slice_get-push_cases cl (Some k) id (Some j) e);
    from = λ id j e. ⊎_elim
        (λ o. ⊎_elim (λ has. inl (Contains-append_left ids (length cl ∷ []) id has)) (λ w. inr w) (h.from id j o))
        (λ n. inl (subst (Contains more-ids) (sym n.0) (Contains-push ids (length cl))))
        (slice_get-push_cases cl (Some k) id (Some j) e);
    problem = All-weaker (λ d. (id : ℕ) × IsHeldAs cl id d × (Contains ids id → ⊥)) (λ d. (id : ℕ) × IsHeldAs more id d
        × (Contains more-ids id → ⊥)) learnt-apart (clauses_of p) h.problem;
    learnt_held = zip-push more ids learnt (length cl) c (zip-later cl more (front-push cl (Some k)) ids learnt
        h.learnt_held) (k, slice_get-push_new cl (Some k), once);
  }

-- the problem with one more variable and one more clause
abbrev clauses-selected : (p : ProblemState) (c : List Lit) → clauses_of (with_selected p c) ≡ clauses_of p ++ c ∷ []
clauses-selected p c = sym (append_assoc (flat_map gate_clauses p.gates) p.clauses (c ∷ []))

pub selected-first : (p : ProblemState) (c : List Lit) (v : ℕ → Bool) → Satisfies (with_selected p c) v → Satisfies p v
selected-first p c v s = record {
  gates = s.gates;
  clauses = All-front (IsSatisfied v) p.clauses (c ∷ []) s.clauses;
  sums = s.sums;
  bounds = s.bounds;
  retired = s.retired;
}

module _ (p : ProblemState) (learnt : List (List Lit)) (ids : List ℕ) (cl : List (Option (List Lit))) (c k : List Lit)
    (h : Knows p learnt ids cl) (lits : AreLitsOf (p.vars + 1) c) (once : IsEachOnceOf c k) where
  abbrev grown : ProblemState
  grown = with_selected p c

  has-first : (d : List Lit) → Contains (clauses_of p) d → Contains (clauses_of grown) d
  has-first d has = subst (λ (cs : List (List Lit)). Contains cs d) (sym (clauses-selected p c))
      (Contains-append_left (clauses_of p) (c ∷ []) d has)

  has-new : Contains (clauses_of grown) c
  has-new = subst (λ (cs : List (List Lit)). Contains cs c) (sym (clauses-selected p c))
      (Contains-push (clauses_of p) c)

  selected-from : (j : List Lit) → (IsOneOf (clauses_of p) j ⊎ IsOfConstraint p j) → IsOneOf (clauses_of grown) j
      ⊎ IsOfConstraint grown j
  selected-from j way = ⊎_elim (λ w. inl (w.0, has-first w.0 w.1, w.2)) (λ w. inr w) way

  selected-occurs : (l : Lit) → Occurs p l → Occurs grown l
  selected-occurs l way = ⊎_elim
      (λ (w : Any (λ d. Contains d l) (clauses_of p)). let has = has-first w.1 (w.0, w.2, w.3) in
      inl (has.0, w.1, has.1, has.2, w.4))
      (λ (w : IsConstrained p l). inr w)
      way

  new-occurs : (l : Lit) → Contains c l → Occurs grown l
  new-occurs l has = let w = has-new in inl (w.0, c, w.1, w.2, has)

  pub known-selected : Knows grown learnt ids (cl ++ Some k ∷ [])
  known-selected = record {
    implied = λ v s id j e. ⊎_elim
        (λ o. h.implied v (selected-first p c v s) id j o)
        (λ n. subst (IsSatisfied v) (sym (same_Some j k n.1)) (once-satisfied v c k once
        (All-contains (IsSatisfied v) (p.clauses ++ c ∷ []) c s.clauses (Contains-push p.clauses c))))
        (slice_get-push_cases cl (Some k) id (Some j) e);
    within = λ id j e. ⊎_elim
        (λ o. lits-wider p.vars (p.vars + 1) (omega arith) j (h.within id j o))
        (λ n. subst (AreLitsOf (p.vars + 1)) (sym (same_Some j k n.1)) (once-all (IsLitOf (p.vars + 1)) c k once lits))
        (slice_get-push_cases cl (Some k) id (Some j) e);
    from = λ id j e. ⊎_elim
        (λ o. ⊎_elim (λ has. inl has) (λ way. inr (selected-from j way)) (h.from id j o))
        (λ n. inr (inl (c, has-new, subst (IsEachOnceOf c) (sym (same_Some j k n.1)) once)))
        (slice_get-push_cases cl (Some k) id (Some j) e);
    problem = subst (All (λ d. (id : ℕ) × IsHeldAs (cl ++ Some k ∷ []) id d × (Contains ids id → ⊥)))
        (sym (clauses-selected p c))
        (All-push (λ d. (id : ℕ) × IsHeldAs (cl ++ Some k ∷ []) id d × (Contains ids id → ⊥)) (clauses_of p) c
        (All-weaker (λ d. (id : ℕ) × IsHeldAs cl id d × (Contains ids id → ⊥))
        (λ d. (id : ℕ) × IsHeldAs (cl ++ Some k ∷ []) id d × (Contains ids id → ⊥))
        (λ d w. (w.0, held-later cl (cl ++ Some k ∷ []) (front-push cl (Some k)) w.0 d w.1, w.2))
        (clauses_of p) h.problem) (
          length cl,
          (k, slice_get-push_new cl (Some k), once),
          λ has. let lt : length cl < length cl =
              ids-within cl ids learnt h.learnt_held (length cl) has in omega (arith, lt),
        ));
    occurs = λ id j e. ⊎_elim
        (λ o. All-weaker (Occurs p) (Occurs grown) selected-occurs j (h.occurs id j o))
        (λ n. subst (All (Occurs grown)) (sym (same_Some j k n.1))
        (once-all (Occurs grown) c k once (λ i d lt. new-occurs (get_or c i d) (Contains-get_or c i d lt))))
        (slice_get-push_cases cl (Some k) id (Some j) e);
    learnt_held = zip-later cl (cl ++ Some k ∷ []) (front-push cl (Some k)) ids learnt h.learnt_held;
  }

-- one more selector is retired
pub any-push : {X : Type 0} (P : X → Type 0) (xs : List X) (y : X) → Any P xs → Any P (xs ++ y ∷ [])
any-push P xs y w = let has = Contains-append_left xs (y ∷ []) w.1 (w.0, w.2, w.3) in (has.0, w.1, has.1, has.2, w.4)

pub retired-first : (p : ProblemState) (l : Lit) (v : ℕ → Bool) → Satisfies (with_retired p l) v → Satisfies p v
retired-first p l v s = record {
  gates = s.gates;
  clauses = s.clauses;
  sums = s.sums;
  bounds = s.bounds;
  retired =
      All-front (λ k. literal_value v k ≡ false) p.retired (l ∷ []) s.retired;
}

module _ (p : ProblemState) (l : Lit) where
  constraint-retired : (k : List Lit) → IsOfConstraint p k → IsOfConstraint (with_retired p l) k
  constraint-retired k way = ⊎_elim
      (λ (w : Any (λ s. (v : ℕ → Bool) → SumHolds v s → IsSatisfied v k) p.sums). inl w)
      (λ (r : Any (λ b. (v : ℕ → Bool) → BoundHolds v p.terms b → IsSatisfied v k) p.bounds ⊎ Any (λ m. (v : ℕ → Bool)
      → literal_value v m ≡ false → IsSatisfied v k) p.retired). inr (⊎_elim
      (λ (w : Any (λ b. (v : ℕ → Bool) → BoundHolds v p.terms b → IsSatisfied v k) p.bounds). inl w)
      (λ (w : Any (λ m. (v : ℕ → Bool) → literal_value v m ≡ false → IsSatisfied v k) p.retired).
      inr (any-push (λ m. (v : ℕ → Bool) → literal_value v m ≡ false → IsSatisfied v k) p.retired l w))
      r))
      way

  occurs-retired : (m : Lit) → Occurs p m → Occurs (with_retired p l) m
  occurs-retired m way = ⊎_elim
      (λ (w : Any (λ c. Contains c m) (clauses_of p)). inl w)
      (λ (w : IsConstrained p m). inr (⊎_elim
      (λ (s : Any (IsOfSum m) p.sums). inl s)
      (λ (r : Any (λ (b : TermBound). b.out.var.0 ≡ m.var.0) p.bounds
      ⊎ (Any (λ (t : GroundTerm). Any (λ (u : Part). u.lit.var.0 ≡ m.var.0) t.parts) p.terms
      ⊎ Any (λ s. m ≡ negated s) p.retired)). inr (⊎_elim
      (λ (b : Any (λ (b : TermBound). b.out.var.0 ≡ m.var.0) p.bounds). inl b)
      (λ (x : Any (λ (t : GroundTerm). Any (λ (u : Part). u.lit.var.0 ≡ m.var.0) t.parts) p.terms
      ⊎ Any (λ s. m ≡ negated s) p.retired). inr (⊎_elim
      (λ (t : Any (λ (t : GroundTerm). Any (λ (u : Part). u.lit.var.0 ≡ m.var.0) t.parts) p.terms). inl t)
      (λ (t : Any (λ s. m ≡ negated s) p.retired). inr (any-push (λ s. m ≡ negated s) p.retired l t))
      x))
      r))
      w))
      way

  pub known-retired : (learnt : List (List Lit)) (ids : List ℕ) (cl : List (Option (List Lit))) → Knows p learnt ids cl
      → Knows (with_retired p l) learnt ids cl
  known-retired learnt ids cl h = record {
    implied = λ v s id k e. h.implied v (retired-first p l v s) id k e;
    within = h.within;
    from = λ id k e. ⊎_elim (λ has. inl has) (λ way. inr (⊎_elim (λ w. inl w) (λ w. inr (constraint-retired k w)) way))
        (h.from id k e);
    problem = h.problem;
    occurs = λ id k e. All-weaker (Occurs p) (Occurs (with_retired p l)) occurs-retired k (h.occurs id k e);
    learnt_held = h.learnt_held;
  }

-- the clause by which a retired selector is false was pushed
module _ (p : ProblemState) (learnt : List (List Lit)) (ids : List ℕ) (cl : List (Option (List Lit))) (l : Lit)
    (k : List Lit) (h : Knows p learnt ids cl) (gone : Contains p.retired l) (lit : IsLitOf p.vars l)
    (once : IsEachOnceOf (negated l ∷ []) k) where
  off-satisfied : (v : ℕ → Bool) → literal_value v l ≡ false → IsSatisfied v (negated l ∷ [])
  off-satisfied v off = (0, negated l, omega arith, refl, value-negated v l ∙ ap not off)

  off-occurs : Occurs p (negated l)
  off-occurs = inr (inr (inr (inr (gone.0, l, gone.1, gone.2, refl))))

  pub known-closed : Knows p learnt ids (cl ++ Some k ∷ [])
  known-closed = record {
    implied = λ v s id j e. ⊎_elim
        (λ o. h.implied v s id j o)
        (λ n. subst (IsSatisfied v) (sym (same_Some j k n.1)) (once-satisfied v (negated l ∷ []) k once
        (off-satisfied v (All-contains (λ m. literal_value v m ≡ false) p.retired l s.retired gone))))
        (slice_get-push_cases cl (Some k) id (Some j) e);
    within = λ id j e. ⊎_elim
        (λ o. h.within id j o)
        (λ n. subst (AreLitsOf p.vars) (sym (same_Some j k n.1)) (once-all (IsLitOf p.vars) (negated l ∷ []) k once
        (All-cons (IsLitOf p.vars) (negated l) [] lit (All-nil (IsLitOf p.vars)))))
        (slice_get-push_cases cl (Some k) id (Some j) e);
    from = λ id j e. ⊎_elim
        (λ o. h.from id j o)
        (λ n. inr (inr (inr (inr (
          gone.0,
          l,
          gone.1,
          gone.2,
          λ v off. subst (IsSatisfied v) (sym (same_Some j k n.1))
              (once-satisfied v (negated l ∷ []) k once (off-satisfied v off)),
        )))))
        (slice_get-push_cases cl (Some k) id (Some j) e);
    problem = All-weaker (λ d. (id : ℕ) × IsHeldAs cl id d × (Contains ids id → ⊥))
        (λ d. (id : ℕ) × IsHeldAs (cl ++ Some k ∷ []) id d × (Contains ids id → ⊥))
        (λ d w. (w.0, held-later cl (cl ++ Some k ∷ []) (front-push cl (Some k)) w.0 d w.1, w.2))
        (clauses_of p) h.problem;
    occurs = λ id j e. ⊎_elim
        (λ o. h.occurs id j o)
        (λ n. subst (All (Occurs p)) (sym (same_Some j k n.1)) (once-all (Occurs p) (negated l ∷ []) k once
        (All-cons (Occurs p) (negated l) [] off-occurs (All-nil (Occurs p)))))
        (slice_get-push_cases cl (Some k) id (Some j) e);
    learnt_held = zip-later cl (cl ++ Some k ∷ []) (front-push cl (Some k)) ids learnt h.learnt_held;
  }

-- the learnt clauses were removed
pub known-forgets : (p : ProblemState) (learnt : List (List Lit)) (ids : List ℕ) (cl new : List (Option (List Lit)))
    → Knows p learnt ids cl → ((id : ℕ) (k : List Lit) → slice_get new id ≡ Some (Some k)
    → slice_get cl id ≡ Some (Some k)) → ((id : ℕ) (k : List Lit) → slice_get cl id ≡ Some (Some k)
    → (Contains ids id → ⊥) → slice_get new id ≡ Some (Some k)) → ((id : ℕ) (k : List Lit) → Contains ids id
    → slice_get new id ≡ Some (Some k) → ⊥) → Knows p [] [] new
known-forgets p learnt ids cl new h was stays gone = record {
  implied = λ v s id k e. h.implied v s id k (was id k e);
  within = λ id k e. h.within id k (was id k e);
  occurs = λ id k e. h.occurs id k (was id k e);
  from = λ id k e. ⊎_elim (λ has. absurd (gone id k has e)) (λ w. inr w) (h.from id k (was id k e));
  problem = All-weaker (λ d. (id : ℕ) × IsHeldAs cl id d × (Contains ids id → ⊥)) (λ d. (id : ℕ) × IsHeldAs new id d
      × (Contains [] id → ⊥)) (λ d w. (w.0, (w.1.0, stays w.0 w.1.0 w.1.1 w.2, w.1.2), λ has. nothing_in_none w.0 has))
      (clauses_of p) h.problem;
  learnt_held = tt;
}
