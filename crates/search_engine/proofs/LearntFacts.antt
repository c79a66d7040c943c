-- A search after a clause was learnt.
use Rattle.std.proofs.Common.{◌≡◌, ℕ, false, ◌+◌, ◌-◌, ◌^◌, ◌<◌, ◌≤◌, min, Option, Some, None, List, [], ◌∷◌, ◌++◌}
use Rattle.std.proofs.Common.{length, take, slice_get, get_or, sym, ap, ◌∙◌, subst, arith, Contains}
use Rattle.std.specs.Prelude.{IsSome}
use Rattle.std.proofs.lemmas.List.{length_push, take_all}
use Rattle.std.proofs.lemmas.Option.{get_or_from_slice_get, slice_get_within}
use Rattle.lit_core.specs.declared.literals.Lit.{Lit}
use Rattle.clause_store.specs.declared.trails.Step.{Step}
use Rattle.clause_store.specs.StoreState.{StoreState, IsStore, IsQuiet, IsEachOnceOf, Implies, with_clause}
use Rattle.lit_core.specs.Literals.{negated}
use Rattle.ground_core.specs.Problems.{ProblemState, IsLitOf}
use Rattle.ground_core.specs.Moments.{moment_of}
use Rattle.search_engine.specs.declared.engine.Engine.{Engine}
use Rattle.search_engine.specs.Searching.{AreClosed, AreOthersFalse, paid_of, Continues, Extends, IsEngine, IsFirstOpen}
use Rattle.search_engine.specs.Searching.{IsLesson, IsSearch, SameCounts}
use Rattle.search_engine.proofs.Closing.{closed-learnt}
use Rattle.search_engine.proofs.SearchFacts.{paid-same}
use Rattle.search_engine.proofs.Known.{known-learnt}
use Rattle.search_engine.proofs.PassingFacts.{passing-learnt}
use Rattle.search_engine.proofs.Pushed.{front-push}
use Rattle.search_engine.specs.Resting.{held_of}
use Rattle.search_engine.proofs.LearnFacts.{closed-true, lesson-implies, lesson-fresh, lesson-live, lesson-learnt}
use Rattle.search_engine.proofs.LearnFacts.{orderly-push, extends-push}
use Rattle.search_engine.proofs.LearntLists.{learnt-push}

-- the first literal of a clause
abbrev pub first_of : List Lit → Lit
first_of lits = get_or lits 0 (record { var = record { 0 = 0 }; positive = false })

pub first-is : (lits : List Lit) (l : Lit) → slice_get lits 0 ≡ Some l → first_of lits ≡ l
first-is lits l at = get_or_from_slice_get lits 0 l (record { var = record { 0 = 0 }; positive = false }) at

module _ (old mid pushed : StoreState) (lits held : List Lit) (id : ℕ) (same-clauses : mid.clauses ≡ old.clauses)
    (same-trail : mid.trail ≡ old.trail) (push : pushed ≡ with_clause mid held) (once : IsEachOnceOf lits held)
    (number : id ≡ length mid.clauses) (others : AreOthersFalse old.trail.values lits) where
  pub pushed-clauses : pushed.clauses ≡ old.clauses ++ Some held ∷ []
  pushed-clauses = ap (λ (s : StoreState). s.clauses) push ∙ ap (λ (xs : List (Option (List Lit))). xs ++ Some held ∷
      []) same-clauses

  pub pushed-trail : pushed.trail ≡ old.trail
  pushed-trail = ap (λ (s : StoreState). s.trail) push ∙ same-trail

  pub pushed-number : id ≡ length old.clauses
  pushed-number = number ∙ ap length same-clauses

  pub pushed-implies : Implies pushed id (first_of lits)
  pushed-implies =
      let first : slice_get lits 0 ≡ Some (first_of lits) = others.1
      ∙ ap Some (sym (first-is lits others.0 others.1)) in
      subst (λ (n : ℕ). Implies pushed n (first_of lits)) (sym pushed-number)
      (lesson-implies old pushed lits held (first_of lits) once pushed-clauses pushed-trail first others)

module _ (e f : Engine) (h : IsSearch e) (quiet : IsQuiet e.store) (lits held : List Lit) (lesson : IsLesson e lits)
    (open-first : IsFirstOpen e.store.trail.values lits) (once : IsEachOnceOf lits held) (t : Step)
    (lit-is : t.lit ≡ first_of lits) (reason : IsSome t.reason)
    (clauses : f.store.clauses ≡ e.store.clauses ++ Some held ∷ []) (steps : f.store.trail.steps ≡ e.store.trail.steps
    ++ t ∷ []) (size : length f.store.trail.values ≡ length e.store.trail.values) (laws : IsStore f.store)
    (problem : f.problem ≡ e.problem) (known : f.known ≡ e.known) (closed : f.closed ≡ e.closed)
    (base : f.base ≡ e.base) (searches : f.searches ≡ e.searches) (counts : SameCounts e f)
    (learnt : f.learnt ≡ e.learnt ++ lits ∷ []) (moments : f.moments.items ≡ e.moments.items ++ moment_of e.problem ∷
    []) (ids : f.ids.items ≡ e.ids.items ++ length e.store.clauses ∷ []) (passing : f.passing ≡ e.passing)
    (fits : length f.learnt < 2 ^ 64) where
  none-no : (o : Option ℕ) → IsSome o → o ≡ None → 0 < t.level
  none-no None s n = cc
  none-no (Some i) s n = cc

  first-lit : IsLitOf e.problem.vars t.lit
  first-lit =
      let o = lesson.others in
      let lt : 0 < length lits = slice_get_within lits 0 o.0 o.1 in
      subst (IsLitOf e.problem.vars) (sym lit-is) (lesson.within 0
      (record { var = record { 0 = 0 }; positive = false }) lt)

  -- no retired selector's negation is in the clause
  live : (l : Lit) → Contains e.problem.retired l → Contains lits (negated l) → ⊥
  live l gone has =
      let whole : take e.closed e.problem.retired ≡ e.problem.retired = take_all e.closed e.problem.retired
      (let all : e.closed ≡ length e.problem.retired = h.closed in omega (arith, all)) in
      let closed-all : AreClosed e.store.clauses e.ids.items e.problem.retired =
      subst (AreClosed e.store.clauses e.ids.items) whole h.engine.closed in
      lesson-live e.store.trail.values lits l lesson.others open-first
      (closed-true e.store e.ids.items e.problem.retired quiet closed-all l gone) has

  learnt-engine : IsEngine f
  learnt-engine = record {
    problem = rw problem h.engine.problem;
    within = rw (problem, closed) h.engine.within;
    closed = rw (problem, closed, ids, clauses) (closed-learnt e.store.clauses held e.ids.items
        (take e.closed e.problem.retired) h.engine.closed);
    learnt = rw (problem, learnt, moments) (learnt-push e.problem e.learnt e.moments.items lits h.engine.learnt
        (lesson-learnt e.problem e.learnt (held_of e.store.clauses) lits live lesson.entailed
        (lesson-fresh e.problem e.learnt e.ids.items e.store h.engine.knows quiet lits lesson.others open-first)));
    knows = rw (problem, learnt, ids, clauses) (known-learnt e.problem e.learnt e.ids.items e.store.clauses lits held
        h.engine.knows lesson.entailed lesson.within lesson.occurs once);
    store = laws;
    sized = rw (problem, size) h.engine.sized;
  }

  pub learnt-search : IsSearch f
  learnt-search =
      let more : length (e.learnt ++ lits ∷ []) ≡ length e.learnt + 1 = length_push e.learnt lits in
      let len : length f.learnt ≡ length (e.learnt ++ lits ∷ []) = ap length learnt in
      let owed : min (length e.learnt + 1) (2 ^ 64 - 1) ≤ e.known + e.conflicts = lesson.owed in
      let k : f.known ≡ e.known = known in
      let c : f.conflicts ≡ e.conflicts = counts.conflicts in
      let r : f.root_conflicts ≡ e.root_conflicts = counts.root_conflicts in
      let o : e.root_conflicts ≤ 1 = h.once in
      record {
        engine = learnt-engine;
        orderly = rw (problem, steps) (orderly-push e.problem.vars e.store.trail.steps t h.orderly first-lit
            (none-no t.reason reason));
        counted = omega (arith, more, len, owed, k, c, fits);
        fewer = subst (λ (q : ProblemState). paid_of f < 2 ^ q.vars) (sym problem)
            (subst (λ n. n < 2 ^ e.problem.vars) (sym (paid-same e f problem base c)) h.fewer);
        once = omega (arith, r, o);
        closed = rw (problem, closed) h.closed;
        passing = passing-learnt e f held h.passing problem closed (ap (λ v. v.items) passing) ids clauses;
      }

  pub learnt-continues : Continues e f
  learnt-continues = record {
    problem = problem;
    searches = searches;
    known = known;
    base = base;
    learnt = front-push e.learnt lits ∙ ap (take (length e.learnt)) (sym learnt);
    now = (1, ap length learnt ∙ length_push e.learnt lits, moments);
  }

  pub learnt-extends : Extends e.store.trail.steps f.store.trail.steps
  learnt-extends = subst (Extends e.store.trail.steps) (sym steps) (extends-push e.store.trail.steps t reason)
