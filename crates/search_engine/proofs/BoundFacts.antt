-- Problems with one more bound, and clauses that bounds imply.
use Rattle.std.proofs.Common.{◌≡◌, ℕ, ◌+◌, ◌^◌, ◌<◌, ◌≤◌, Bool, false, Option, List, length, take}
use Rattle.std.proofs.Common.{get_or, refl, sym, ap, ◌∙◌, subst, ◌⊎◌, inl, inr, ⊎_elim, arith, Any}
use Rattle.std.proofs.Common.{Contains}
use Rattle.std.specs.Prelude.{Result, Ok, Err, IfOk, OnErr}
use Rattle.std.proofs.lemmas.List.Elements.{All-weaker}
use Rattle.std.proofs.lemmas.Option.{get_or_from_slice_get, slice_get_within}
use Rattle.kb_logic.specs.declared.elements.ExtInt.{ExtInt}
use Rattle.lit_core.specs.declared.literals.Lit.{Lit}
use Rattle.lit_core.specs.Literals.{literal_value, negated}
use Rattle.lit_core.specs.Truth.{IsSatisfied}
use Rattle.clause_store.specs.StoreState.{StoreState, IsStore}
use Rattle.ground_core.specs.declared.parts.GroundTerm.{GroundTerm}
use Rattle.ground_core.specs.declared.parts.Part.{Part}
use Rattle.ground_core.specs.declared.parts.TermBound.{TermBound}
use Rattle.ground_core.specs.Problems.{ProblemState, IsProblem}
use Rattle.ground_core.specs.Meaning.{SumHolds, BoundHolds}
use Rattle.ground_core.specs.Growth.{next_lit, with_bound}
use Rattle.ground_core.specs.GateClauses.{clauses_of}
use Rattle.ground_core.specs.Solving.{IsLearnt}
use Rattle.ground_core.proofs.GrowthFacts.{bound-problem, bound-restricts}
use Rattle.kept_problem.proofs.JoinLaws.{lits-wider}
use Rattle.term_bounds.specs.Breaking.{AreOnTerms, HasLits, IsBrokenAt, IsBrokenBy, IsOfBounds}
use Rattle.search_engine.specs.declared.engine.Engine.{Engine}
use Rattle.search_engine.specs.Knowledge.{IsOfConstraint, IsOfSum, IsConstrained, Occurs, Knows}
use Rattle.search_engine.specs.Resting.{Bounds, IsResting, Reserves, SameLists, Stays, held_of}
use Rattle.search_engine.specs.Searching.{AreClosed, IsExplained, IsOrderly, IsSearch}
use Rattle.search_engine.proofs.GrowFacts.{orderly-wider, pow-le, resting-same, same-itself, same-twice}
use Rattle.search_engine.proofs.Known.{any-push}
use Rattle.search_engine.proofs.LearntLists.{learnt-bounded}
use Rattle.search_engine.proofs.SearchFacts.{false-within}

-- the problem with one more bound
module _ (p : ProblemState) (term : ℕ) (below : ExtInt) where
  abbrev bounded : ProblemState
  bounded = with_bound p term below

  constraint-bounded : (k : List Lit) → IsOfConstraint p k → IsOfConstraint bounded k
  constraint-bounded k way = ⊎_elim
      (λ (w : Any (λ s. (v : ℕ → Bool) → SumHolds v s → IsSatisfied v k) p.sums). inl w)
      (λ (r : Any (λ b. (v : ℕ → Bool) → BoundHolds v p.terms b → IsSatisfied v k) p.bounds ⊎ Any (λ m. (v : ℕ → Bool)
      → literal_value v m ≡ false → IsSatisfied v k) p.retired). inr (⊎_elim
      (λ (w : Any (λ b. (v : ℕ → Bool) → BoundHolds v p.terms b → IsSatisfied v k) p.bounds).
      inl (any-push (λ b. (v : ℕ → Bool) → BoundHolds v p.terms b → IsSatisfied v k) p.bounds _ w))
      (λ (w : Any (λ m. (v : ℕ → Bool) → literal_value v m ≡ false → IsSatisfied v k) p.retired). inr w)
      r))
      way

  occurs-bounded : (m : Lit) → Occurs p m → Occurs bounded m
  occurs-bounded m way = ⊎_elim
      (λ (w : Any (λ c. Contains c m) (clauses_of p)). inl w)
      (λ (w : IsConstrained p m). inr (⊎_elim
      (λ (s : Any (IsOfSum m) p.sums). inl s)
      (λ (r : Any (λ (b : TermBound). b.out.var.0 ≡ m.var.0) p.bounds
      ⊎ (Any (λ (t : GroundTerm). Any (λ (u : Part). u.lit.var.0 ≡ m.var.0) t.parts) p.terms
      ⊎ Any (λ s. m ≡ negated s) p.retired)). inr (⊎_elim
      (λ (b : Any (λ (b : TermBound). b.out.var.0 ≡ m.var.0) p.bounds).
      inl (any-push (λ (b : TermBound). b.out.var.0 ≡ m.var.0) p.bounds _ b))
      (λ (x : Any (λ (t : GroundTerm). Any (λ (u : Part). u.lit.var.0 ≡ m.var.0) t.parts) p.terms
      ⊎ Any (λ s. m ≡ negated s) p.retired). inr x)
      r))
      w))
      way

  known-bounded : (learnt : List (List Lit)) (ids : List ℕ) (cl : List (Option (List Lit))) → Knows p learnt ids cl
      → Knows bounded learnt ids cl
  known-bounded learnt ids cl h = record {
    implied = λ v s id k e. h.implied v (bound-restricts p term below v s) id k e;
    within = λ id k e. lits-wider p.vars (p.vars + 1) (omega arith) k (h.within id k e);
    from = λ id k e. ⊎_elim (λ has. inl has) (λ way. inr (⊎_elim (λ w. inl w) (λ w. inr (constraint-bounded k w)) way))
        (h.from id k e);
    problem = h.problem;
    occurs = λ id k e. All-weaker (Occurs p) (Occurs bounded) occurs-bounded k (h.occurs id k e);
    learnt_held = h.learnt_held;
  }

-- a bound was added
pub resting-bounded : (e f : Engine) (term : ℕ) (below : ExtInt) → term < length e.problem.terms → IsResting e
    → SameLists e f → f.store ≡ e.store → e.problem.vars + 1 < length e.store.trail.values
    → f.problem ≡ with_bound e.problem term below → IsResting f
resting-bounded e f term below lt h same store sized problem =
    let up : 2 ^ e.problem.vars ≤ 2 ^ (e.problem.vars + 1) = pow-le e.problem.vars (e.problem.vars + 1) (omega arith) in
    let few : e.conflicts < 2 ^ e.problem.vars = h.fewer in
    let fewer : e.conflicts < 2 ^ (e.problem.vars + 1) = omega (arith, up, few) in
    let orderly : IsOrderly (e.problem.vars + 1) e.store.trail.steps = orderly-wider e.problem.vars (e.problem.vars + 1)
    e.store.trail.steps (omega arith) h.orderly in
    record {
      engine = record {
        problem = subst IsProblem (sym problem) (bound-problem e.problem term below lt h.engine.problem);
        within = rw same.closed (subst (λ (p : ProblemState). e.closed ≤ length p.retired)
            (sym problem) h.engine.within);
        closed = rw (same.closed, same.ids, store) (subst (λ (p : ProblemState). AreClosed e.store.clauses e.ids.items
            (take e.closed p.retired)) (sym problem) h.engine.closed);
        learnt = rw (same.same.learnt, same.same.moments) (subst
            (λ (p : ProblemState). IsLearnt p e.learnt e.moments.items) (sym problem)
            (learnt-bounded e.problem term below e.learnt e.moments.items h.engine.learnt));
        knows = rw (same.same.learnt, same.ids, store) (subst (λ (p : ProblemState).
            Knows p e.learnt e.ids.items e.store.clauses) (sym problem)
            (known-bounded e.problem term below e.learnt e.ids.items e.store.clauses h.engine.knows));
        store = subst IsStore (sym store) h.engine.store;
        sized = rw store (subst (λ (p : ProblemState). p.vars < length e.store.trail.values) (sym problem) sized);
      };
      level = ap (λ (s : StoreState). s.trail.level) store ∙ h.level;
      orderly = rw store (subst (λ (p : ProblemState). IsOrderly p.vars e.store.trail.steps) (sym problem) orderly);
      fewer = rw same.same.conflicts (subst (λ (p : ProblemState). e.conflicts < 2 ^ p.vars) (sym problem) fewer);
      once = rw same.same.root_conflicts h.once;
    }

-- another problem is kept
abbrev pub with_problem : Engine → ProblemState → Engine
with_problem e q = record {
  alloc = e.alloc;
  problem = q;
  store = e.store;
  learnt = e.learnt;
  ids = e.ids;
  passing = e.passing;
  moments = e.moments;
  decider = e.decider;
  ledger = e.ledger;
  log = e.log;
  searches = e.searches;
  known = e.known;
  conflicts = e.conflicts;
  root_conflicts = e.root_conflicts;
  assumed = e.assumed;
  closed = e.closed;
  base = e.base;
}

same-lists : (m : Engine) (q : ProblemState) → SameLists m (with_problem m q)
same-lists m q = record { same = same-itself m (with_problem m q) refl refl refl refl refl; ids = refl; closed = refl }

-- a bound was added, or there was no memory
module _ {E : Type 0} (m : Engine) (q : ProblemState) (term : ℕ) (below : ExtInt) where
  pub resting-either : (l : Lit) (r : Result Lit E) → term < length m.problem.terms → IsResting m → m.problem.vars + 1
      < length m.store.trail.values → IfOk r (λ out. (out ≡ l) × (q ≡ with_bound m.problem term below))
      → OnErr r (q ≡ m.problem) → IsResting (with_problem m q)
  resting-either l (Ok out) lt h sized ok err = resting-bounded m (with_problem m q) term below lt h
      (same-lists m q) refl sized ok.1
  resting-either l (Err e) lt h sized ok err = resting-same m (with_problem m q) h (same-lists m q) err refl refl
      h.engine.store

  pub bounds-if-ok : (old : Engine) → Reserves old m → (r : Result Lit E)
      → IfOk r (λ out. (out ≡ next_lit m.problem) × (q ≡ with_bound m.problem term below))
      → IfOk r (λ out. (out ≡ next_lit old.problem) × Bounds old term below (with_problem m q))
  bounds-if-ok old res (Ok out) ok = (
    ok.0 ∙ ap next_lit res.problem,
    record {
      problem = ok.1 ∙ ap (λ (p : ProblemState). with_bound p term below) res.problem;
      same =
          same-twice old m (with_problem m q) res.lists.same (same-lists m q).same;
    },
  )
  bounds-if-ok old res (Err e) ok = tt

  pub stays-if-err : (old : Engine) → Reserves old m → (r : Result Lit E) → OnErr r (q ≡ m.problem)
      → OnErr r (Stays old (with_problem m q))
  stays-if-err old res (Ok out) err = tt
  stays-if-err old res (Err e) err = record {
    problem = err ∙ res.problem;
    held = ap held_of res.clauses;
    same =
        same-twice old m (with_problem m q) res.lists.same (same-lists m q).same;
  }

-- what a look at the bounds asks for
pub on-terms : (p : ProblemState) → IsProblem p → AreOnTerms p.terms p.bounds
on-terms p fine k d lt = (fine.bounds k d lt).1

pub lits-below : (p : ProblemState) (n : ℕ) → IsProblem p → p.vars < n → HasLits (λ l. l.var.0 < n) p.terms p.bounds
lits-below p n fine sized = (
  (λ k d lt j m less. let high : (get_or (get_or p.terms k d).parts j m).lit.var.0 ≤ p.vars =
      (fine.terms k d lt j m less).1 in omega (arith, high, sized)),
  (λ k d lt. let high : (get_or p.bounds k d).out.var.0 ≤ p.vars = (fine.bounds k d lt).0.1 in
      omega (arith, high, sized)),
)

-- the bound at a place is one of them
pub broken-somewhere : (ts : List GroundTerm) (bs : List TermBound) (a : List (Option Bool)) (place : ℕ) (c : List Lit)
    → IsBrokenAt ts bs a place c → IsBrokenBy ts bs a c
broken-somewhere ts bs a place c h = record {
  falsified = h.falsified;
  implied = (
    place,
    h.bound,
    slice_get_within bs place h.bound h.there,
    get_or_from_slice_get bs place h.bound h.bound h.there,
    h.implied,
  );
  within = h.within;
}

-- a clause that a bound implies, which is false
pub broken-explained : (e : Engine) → IsSearch e → (c : List Lit)
    → IsBrokenBy e.problem.terms e.problem.bounds e.store.trail.values c → IsExplained e.problem c
broken-explained e h c broken = record {
  within = false-within e.problem.vars e.store.trail h.engine.store.trail h.orderly c broken.falsified;
  occurs = All-weaker (IsOfBounds e.problem.terms e.problem.bounds) (Occurs e.problem) (λ l way. ⊎_elim
      (λ b. inr (inr (inl b))) (λ t. inr (inr (inr (inl t)))) way) c broken.within;
  constraint = inr (inl broken.implied);
}
