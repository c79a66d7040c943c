-- Propagation between the turns of a search.
use Rattle.std.proofs.Common.{◌≡◌, ℕ, ◌+◌, ◌^◌, ◌<◌, ◌≤◌, true, false, Option, Some, None, List, ◌∷◌, ◌++◌, length}
use Rattle.std.proofs.Common.{take, slice_get, refl, sym, ap, ◌∙◌, subst, ◌⊎◌, inl, inr, ⊎_elim, arith}
use Rattle.std.specs.Prelude.{IsSome}
use Rattle.std.proofs.lemmas.Bool.{cases_lt}
use Rattle.std.proofs.lemmas.List.Elements.{All-nil, All-weaker, All-contains}
use Rattle.std.proofs.lemmas.Option.{same_Some}
use Rattle.lit_core.specs.declared.literals.Lit.{Lit}
use Rattle.lit_core.specs.Literals.{value_in}
use Rattle.clause_store.specs.declared.trails.Step.{Step}
use Rattle.clause_store.specs.StoreState.{StoreState, IsStore, IsHeld, Propagates}
use Rattle.clause_store.proofs.ListFacts.{slice_get-take-below}
use Rattle.ground_core.specs.Problems.{ProblemState, IsLitOf, AreLitsOf}
use Rattle.ground_core.specs.Solving.{Answers}
use Rattle.search_engine.specs.declared.engine.Engine.{Engine}
use Rattle.search_engine.specs.declared.searching.Outcome.{Outcome}
use Rattle.search_engine.specs.declared.searching.Outcome.TheVariants.{Answered, Further, Open, Spent}
use Rattle.search_engine.specs.Potential.{implied_of, Ahead, Behind, Stands}
use Rattle.search_engine.specs.Searching.{OutcomeGives, TurnEnds, AheadAt, AreAssumed, AreTrue, BehindAt, Extends}
use Rattle.search_engine.specs.Searching.{IsFirstAssigned, IsFirstOpen, IsLesson, IsOrderly, IsSearch, IsTurn, StandsAt}
use Rattle.search_engine.specs.Searching.{paid_of}
use Rattle.search_engine.proofs.Standing.{follow-ahead, grow-ahead, lower-ahead}
use Rattle.search_engine.proofs.TrailChange.{extends-assumed, extends-cases, extends-from, extends-propagates}
use Rattle.search_engine.proofs.TrailChange.{same-open, still-false}
use Rattle.search_engine.proofs.SearchFacts.{Moves, paid-same, search-moves}
use Rattle.search_engine.proofs.DecideFacts.{SameBut, front-trues, room-for}

-- steps that follow were added after the backtrack
pub extends-stands : (v c goal room : ℕ) (old new : List Step) → Extends old new → length (implied_of new) + room ≡ v
    → Stands v (implied_of old) c goal → Stands v (implied_of new) c goal
extends-stands v c goal room old new h fits s = ⊎_elim
    (λ same. subst (λ (xs : List Step). Stands v (implied_of xs) c goal) (sym same) s)
    (λ w.
    let more : length (implied_of old ++ true ∷ w.0) + room ≡ v = rw (← w.1) fits in
    let here : Ahead v (implied_of old ++ true ∷ w.0) c goal = ⊎_elim
    (λ (a : Ahead v (implied_of old) c goal). grow-ahead v (implied_of old) (true ∷ w.0) c goal room more a)
    (λ (b : Behind v (implied_of old) c goal). lower-ahead v (implied_of old ++ true ∷ w.0) c goal (goal + 1)
    (omega arith) (follow-ahead v (implied_of old) w.0 c goal room more b))
    s in
    inl (subst (λ bs. Ahead v bs c goal) (sym w.1) here))
    (extends-cases old new h)

pub extends-follows : (v c goal room : ℕ) (old new : List Step) → Extends old new → (new ≡ old → ⊥)
    → length (implied_of new) + room ≡ v → Behind v (implied_of old) c goal → Ahead v (implied_of new) c (goal + 1)
extends-follows v c goal room old new h other fits b = ⊎_elim
    (λ same. absurd (other same))
    (λ w.
    let more : length (implied_of old ++ true ∷ w.0) + room ≡ v = rw (← w.1) fits in
    subst (λ bs. Ahead v bs c (goal + 1)) (sym w.1) (follow-ahead v (implied_of old) w.0 c goal room more b))
    (extends-cases old new h)

pub extends-ahead : (v c goal room : ℕ) (old new : List Step) → Extends old new → length (implied_of new) + room ≡ v
    → Ahead v (implied_of old) c goal → Ahead v (implied_of new) c goal
extends-ahead v c goal room old new h fits a = ⊎_elim
    (λ same. subst (λ (xs : List Step). Ahead v (implied_of xs) c goal) (sym same) a)
    (λ w.
    let more : length (implied_of old ++ true ∷ w.0) + room ≡ v = rw (← w.1) fits in
    subst (λ bs. Ahead v bs c goal) (sym w.1) (grow-ahead v (implied_of old) (true ∷ w.0) c goal room more a))
    (extends-cases old new h)

-- a step that follows names a variable of its clause
pub reason-within : (s : StoreState) (vars : ℕ) → IsStore s → ((id : ℕ) (c : List Lit) → IsHeld s id c
    → AreLitsOf vars c) → (k : ℕ) (t : Step) → slice_get s.trail.steps k ≡ Some t → (o : Option ℕ) → t.reason ≡ o
    → IsSome o → IsLitOf vars t.lit
reason-within s vars laws within k t at None is some = cc
reason-within s vars laws within k t at (Some id) is some =
    let r = laws.reasons k t id at is in
    All-contains (IsLitOf vars) r.0 t.lit (within id r.0 r.1) r.2.member

module _ (e f : Engine) (same : SameBut e f) (h : IsSearch e) (p : Propagates e.store f.store)
    (laws : IsStore f.store) where
  grown : Extends e.store.trail.steps f.store.trail.steps
  grown = extends-propagates e.store f.store p

  pub prop-moves : Moves e f
  prop-moves = record {
    problem = same.problem;
    learnt = same.learnt;
    ids = same.ids;
    passing = same.passing;
    moments = same.moments;
    known = same.known;
    searches = same.searches;
    closed = same.closed;
    base = same.base;
    clauses = p.clauses;
    size = p.size;
  }

  within-after : (id : ℕ) (c : List Lit) → IsHeld f.store id c → AreLitsOf e.problem.vars c
  within-after id c held = h.engine.knows.within id c (ap (λ (xs : List (Option (List Lit))). slice_get xs id)
      (sym p.clauses) ∙ held)

  prop-orderly : IsOrderly e.problem.vars f.store.trail.steps
  prop-orderly = record {
    named = λ k t at. ⊎_elim
        (λ lt. h.orderly.named k t (ap (λ (xs : List Step). slice_get xs k) p.kept
        ∙ (slice_get-take-below (length e.store.trail.steps) f.store.trail.steps k lt ∙ at)))
        (λ ge. reason-within f.store e.problem.vars laws within-after k t at t.reason refl (p.reasoned k t ge at).0)
        (cases_lt k (length e.store.trail.steps));
    decided = λ k t at none. h.orderly.decided k t (extends-from e.store.trail.steps f.store.trail.steps grown k t
        at none) none;
  }

  pub prop-search : IsSearch f
  prop-search =
      let c : f.conflicts ≡ e.conflicts = same.conflicts in
      let r : f.root_conflicts ≡ e.root_conflicts = same.root_conflicts in
      let o : e.root_conflicts ≤ 1 = h.once in
      search-moves e f prop-moves laws prop-orderly (omega (arith, c))
      (subst (λ n. n < 2 ^ e.problem.vars) (sym (paid-same e f same.problem same.base c)) h.fewer)
      (omega (arith, r, o)) h

  pub prop-lesson : (c : List Lit) → IsLesson e c → IsLesson f c
  prop-lesson c l = record {
    within = rw same.problem l.within;
    occurs = rw same.problem l.occurs;
    entailed = rw same.problem l.entailed;
    others =
        let w = l.others in (
          w.0,
          w.1,
          All-weaker (λ m. (m ≡ w.0) ⊎ (value_in e.store.trail.values m ≡ Some false))
              (λ m. (m ≡ w.0) ⊎ (value_in f.store.trail.values m ≡ Some false))
              (λ m x. ⊎_elim (λ i. inl i) (λ n. inr (still-false e.store.trail.values f.store.trail.values
              e.store.trail.steps f.store.trail.steps h.engine.store.trail.coherent laws.trail.coherent grown m n))
              x) c w.2,
        );
    owed = rw (same.learnt, same.known, same.conflicts) l.owed;
  }

  pub prop-turn : (assume : List Lit) → IsTurn assume e → IsTurn assume f
  prop-turn assume t = record {
    decisions = extends-assumed e.store.trail.steps f.store.trail.steps grown assume t.decisions;
    trues = rw same.assumed (front-trues e.store.trail.values f.store.trail.values e.store.trail.steps
        f.store.trail.steps h.engine.store.trail.coherent laws.trail.coherent p.kept (take e.assumed assume) t.trues);
  }

  pub prop-stands : (goal : ℕ) → StandsAt e goal → StandsAt f goal
  prop-stands goal s =
      let r = room-for f prop-search in
      let fits : length (implied_of f.store.trail.steps) + r.0 ≡ e.problem.vars = r.1
      ∙ ap (λ (q : ProblemState). q.vars) same.problem in
      rw (same.problem, same.conflicts, same.base) (extends-stands e.problem.vars (paid_of e) goal r.0
      e.store.trail.steps f.store.trail.steps grown fits s)

  pub prop-ahead : (goal : ℕ) → AheadAt e goal → AheadAt f goal
  prop-ahead goal a =
      let r = room-for f prop-search in
      let fits : length (implied_of f.store.trail.steps) + r.0 ≡ e.problem.vars = r.1
      ∙ ap (λ (q : ProblemState). q.vars) same.problem in
      rw (same.problem, same.conflicts, same.base) (extends-ahead e.problem.vars (paid_of e) goal r.0
      e.store.trail.steps f.store.trail.steps grown fits a)

-- the first literal of the lesson got a value by steps that follow
pub lesson-follows : (e f : Engine) → IsSearch e → IsSearch f → f.problem ≡ e.problem → f.conflicts ≡ e.conflicts
    → f.base ≡ e.base → Extends e.store.trail.steps f.store.trail.steps → (c : List Lit)
    → IsFirstOpen e.store.trail.values c → IsFirstAssigned f.store.trail.values c → (goal : ℕ) → BehindAt e goal
    → AheadAt f (goal + 1)
lesson-follows e f h g problem conflicts base grown c was is goal b =
    let same : was.0 ≡ is.0 = same_Some was.0 is.0 (sym was.1 ∙ is.1) in
    let was-none : value_in e.store.trail.values is.0 ≡ None =
    subst (λ (l : Lit). value_in e.store.trail.values l ≡ None) same was.2 in
    let other = λ (s : f.store.trail.steps ≡ e.store.trail.steps).
    is.2 (same-open e.store.trail.values f.store.trail.values e.store.trail.steps f.store.trail.steps
    h.engine.store.trail.coherent g.engine.store.trail.coherent s is.0 was-none) in
    let r = room-for f g in
    let fits : length (implied_of f.store.trail.steps) + r.0 ≡ e.problem.vars = r.1
    ∙ ap (λ (q : ProblemState). q.vars) problem in
    rw (problem, conflicts, base) (extends-follows e.problem.vars (paid_of e) goal r.0 e.store.trail.steps
    f.store.trail.steps grown other fits b)

-- after a conflict the assumptions are looked at from the first on
pub turn-reset : (assume : List Lit) (f : Engine) → AreAssumed assume f.store.trail.steps → f.assumed ≡ 0
    → IsTurn assume f
turn-reset assume f h none = record {
  decisions = h;
  trues = subst (λ n. AreTrue f.store.trail.values (take n assume)) (sym none)
      (All-nil (λ m. value_in f.store.trail.values m ≡ Some true));
}

-- what was propagated before does not change what the outcome means
pub turn-from : (assume : List Lit) (most : Option ℕ) (e m f : Engine) (x : Outcome) → m.problem ≡ e.problem
    → ((goal : ℕ) → AheadAt e goal → AheadAt m goal) → OutcomeGives assume m f x → TurnEnds assume most e f x
turn-from assume most e m f (Answered verdict) problem ahead h =
    subst (λ (p : ProblemState). Answers p assume verdict) problem h
turn-from assume most e m f Further problem ahead h = (h.0, λ goal a. h.1 goal (ahead goal a))
turn-from assume most e m f Open problem ahead h = (h.0, h.1, h.2, λ goal a. h.3 goal (ahead goal a))
turn-from assume most e m f Spent problem ahead h = absurd h

pub settled-from : (assume : List Lit) (most : Option ℕ) (e m f : Engine) (x : Outcome) → m.problem ≡ e.problem
    → ((goal : ℕ) → AheadAt e goal → AheadAt m goal) → TurnEnds assume most m f x → TurnEnds assume most e f x
settled-from assume most e m f (Answered verdict) problem ahead h =
    subst (λ (p : ProblemState). Answers p assume verdict) problem h
settled-from assume most e m f Further problem ahead h = (h.0, λ goal a. h.1 goal (ahead goal a))
settled-from assume most e m f Open problem ahead h = (h.0, h.1, h.2, λ goal a. h.3 goal (ahead goal a))
settled-from assume most e m f Spent problem ahead h = h
