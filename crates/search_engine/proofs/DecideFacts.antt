-- Decisions.
use Rattle.std.proofs.Common.{◌≡◌, ℕ, suc, ◌+◌, ◌-◌, ◌^◌, ◌<◌, ◌≤◌, Bool, true, false, Option, Some, None, List, []}
use Rattle.std.proofs.Common.{◌∷◌, ◌++◌, length, take, slice_get, refl, sym, ap, ◌∙◌, subst, ◌⊎◌, inl, inr, ⊎_elim}
use Rattle.std.proofs.Common.{arith, All, Contains}
use Rattle.std.specs.Global.{Vec}
use Rattle.std.proofs.lemmas.List.{length-set}
use Rattle.std.proofs.lemmas.List.Elements.{All-weaker}
use Rattle.std.proofs.lemmas.Option.{slice_get_within}
use Rattle.lit_core.specs.declared.literals.Lit.{Lit}
use Rattle.lit_core.specs.Literals.{value_in}
use Rattle.clause_store.specs.declared.trails.Step.{Step}
use Rattle.clause_store.specs.TrailState.{TrailState}
use Rattle.clause_store.specs.TrailLaws.{IsCoherent, IsMade, IsTrail, with_step}
use Rattle.clause_store.specs.StoreState.{StoreState, IsStore, IsMadeBefore, with_trail}
use Rattle.clause_store.proofs.ListFacts.{slice_get-push_cases}
use Rattle.ground_core.specs.Problems.{ProblemState, IsLitOf}
use Rattle.sum_ledger.specs.declared.ledger.Ledger.{Ledger}
use Rattle.search_engine.specs.declared.engine.Engine.{Engine}
use Rattle.search_engine.specs.Potential.{implied_of, Ahead}
use Rattle.search_engine.specs.Searching.{IsOrderly, AreTrue, IsSearch, IsTurn, AheadAt, paid_of}
use Rattle.search_engine.proofs.Pushed.{front-push, front-at}
use Rattle.search_engine.proofs.Standing.{decide-ahead}
use Rattle.search_engine.proofs.TrailChange.{bits-append, steps-fit}
use Rattle.search_engine.proofs.LearnFacts.{orderly-push}
use Rattle.search_engine.proofs.SearchFacts.{Moves, paid-same, search-moves}

-- what is true stays true while steps are added
pub front-true : (a b : List (Option Bool)) (old new : List Step) → IsCoherent a old → IsCoherent b new
    → old ≡ take (length old) new → (m : Lit) → value_in a m ≡ Some true → value_in b m ≡ Some true
front-true a b old new was is kept m e =
    let w : IsMade old m = was.was_made m e in
    subst (λ (l : Lit). value_in b l ≡ Some true) w.3 (is.are_true w.0 w.1 (front-at old new kept w.0 w.1 w.2))

pub front-trues : (a b : List (Option Bool)) (old new : List Step) → IsCoherent a old → IsCoherent b new
    → old ≡ take (length old) new → (lits : List Lit) → AreTrue a lits → AreTrue b lits
front-trues a b old new was is kept lits h = All-weaker (λ m. value_in a m ≡ Some true) (λ m. value_in b m ≡ Some true)
    (front-true a b old new was is kept) lits h

pub bits-length : (steps : List Step) → length (implied_of steps) ≡ length steps
bits-length [] = refl
bits-length (t ∷ steps) = ap suc (bits-length steps)

-- there is room for the steps of a search
pub room-for : (e : Engine) → IsSearch e → (room : ℕ) × (length (implied_of e.store.trail.steps) + room
    ≡ e.problem.vars)
room-for e h =
    let fit : length e.store.trail.steps ≤ e.problem.vars = steps-fit e.problem.vars e.store.trail.values
    e.store.trail.steps h.engine.store.trail.coherent h.orderly h.engine.sized in
    let same : length (implied_of e.store.trail.steps) ≡ length e.store.trail.steps = bits-length e.store.trail.steps in
    (e.problem.vars - length e.store.trail.steps, omega (arith, fit, same))

-- what follows leaves a search where it begins
pub rest-ahead : (vars : ℕ) (s : TrailState) → IsTrail s → IsOrderly vars s.steps → vars < length s.values
    → Ahead vars (implied_of s.steps) 0 0
rest-ahead vars s laws orderly sized =
    let fit : length s.steps ≤ vars = steps-fit vars s.values s.steps laws.coherent orderly sized in
    let same : length (implied_of s.steps) ≡ length s.steps = bits-length s.steps in
    record { room = vars - length s.steps; fits = omega (arith, fit, same); paid = omega arith; gone = omega arith }

-- only the trail and what is noted of choices differ
pub record SameBut (e f : Engine) : Type 0 where
  pub problem : f.problem ≡ e.problem
  pub learnt : f.learnt ≡ e.learnt
  pub ids : f.ids ≡ e.ids
  pub passing : f.passing ≡ e.passing
  pub moments : f.moments ≡ e.moments
  pub known : f.known ≡ e.known
  pub searches : f.searches ≡ e.searches
  pub conflicts : f.conflicts ≡ e.conflicts
  pub root_conflicts : f.root_conflicts ≡ e.root_conflicts
  pub assumed : f.assumed ≡ e.assumed
  pub closed : f.closed ≡ e.closed
  pub base : f.base ≡ e.base

-- the search with another store
abbrev pub with_store : Engine → StoreState → Engine
with_store e s = record {
  alloc = e.alloc;
  problem = e.problem;
  store = s;
  learnt = e.learnt;
  ids = e.ids;
  passing = e.passing;
  moments = e.moments;
  decider = e.decider;
  ledger = e.ledger;
  log = e.log;
  searches = e.searches;
  known = e.known;
  conflicts = e.conflicts;
  root_conflicts = e.root_conflicts;
  assumed = e.assumed;
  closed = e.closed;
  base = e.base;
}

-- the search with other clauses that are held as long as a literal is true by them
abbrev pub with_passing : Engine → Vec ℕ → Engine
with_passing e p = record {
  alloc = e.alloc;
  problem = e.problem;
  store = e.store;
  learnt = e.learnt;
  ids = e.ids;
  passing = p;
  moments = e.moments;
  decider = e.decider;
  ledger = e.ledger;
  log = e.log;
  searches = e.searches;
  known = e.known;
  conflicts = e.conflicts;
  root_conflicts = e.root_conflicts;
  assumed = e.assumed;
  closed = e.closed;
  base = e.base;
}

-- the search with another ledger
abbrev pub with_ledger : Engine → Ledger → Engine
with_ledger e l = record {
  alloc = e.alloc;
  problem = e.problem;
  store = e.store;
  learnt = e.learnt;
  ids = e.ids;
  passing = e.passing;
  moments = e.moments;
  decider = e.decider;
  ledger = l;
  log = e.log;
  searches = e.searches;
  known = e.known;
  conflicts = e.conflicts;
  root_conflicts = e.root_conflicts;
  assumed = e.assumed;
  closed = e.closed;
  base = e.base;
}

pub same-but : (e : Engine) (s : StoreState) → SameBut e (with_store e s)
same-but e s = record {
  problem = refl;
  learnt = refl;
  ids = refl;
  passing = refl;
  moments = refl;
  known = refl;
  searches = refl;
  conflicts = refl;
  root_conflicts = refl;
  assumed = refl;
  closed = refl;
  base = refl;
}

module _ (e f : Engine) (same : SameBut e f) (h : IsSearch e) (t : Step)
    (is : f.store ≡ with_trail e.store (with_step e.store.trail t)) (laws : IsStore f.store)
    (lit : IsLitOf e.problem.vars t.lit) (none : t.reason ≡ None) (up : 0 < t.level) where
  steps-are : f.store.trail.steps ≡ e.store.trail.steps ++ t ∷ []
  steps-are = ap (λ (s : StoreState). s.trail.steps) is

  pub decide-moves : Moves e f
  decide-moves = record {
    problem = same.problem;
    learnt = same.learnt;
    ids = same.ids;
    passing = same.passing;
    moments = same.moments;
    known = same.known;
    searches = same.searches;
    closed = same.closed;
    base = same.base;
    clauses = ap (λ (s : StoreState). s.clauses) is;
    size = ap (λ (s : StoreState). length s.trail.values) is ∙ length-set e.store.trail.values t.lit.var.0
        (Some t.lit.positive);
  }

  decide-orderly : IsOrderly e.problem.vars f.store.trail.steps
  decide-orderly = subst (IsOrderly e.problem.vars) (sym steps-are)
      (orderly-push e.problem.vars e.store.trail.steps t h.orderly lit (λ n. up))

  pub decide-search : IsSearch f
  decide-search =
      let c : f.conflicts ≡ e.conflicts = same.conflicts in
      let r : f.root_conflicts ≡ e.root_conflicts = same.root_conflicts in
      let o : e.root_conflicts ≤ 1 = h.once in
      search-moves e f decide-moves laws decide-orderly (omega (arith, c))
      (subst (λ n. n < 2 ^ e.problem.vars) (sym (paid-same e f same.problem same.base c)) h.fewer)
      (omega (arith, r, o)) h

  kept : e.store.trail.steps ≡ take (length e.store.trail.steps) f.store.trail.steps
  kept = front-push e.store.trail.steps t ∙ ap (take (length e.store.trail.steps)) (sym steps-are)

  before-later : (k : ℕ) (m : Lit) → IsMadeBefore e.store.trail.steps k m → IsMadeBefore f.store.trail.steps k m
  before-later k m w = (w.0, w.1, w.2, front-at e.store.trail.steps f.store.trail.steps kept w.0 w.1 w.3, w.4)

  all-before : (assume : List Lit) → AreTrue e.store.trail.values assume
      → All (IsMadeBefore f.store.trail.steps (length e.store.trail.steps)) assume
  all-before assume trues = All-weaker (λ m. value_in e.store.trail.values m ≡ Some true)
      (IsMadeBefore f.store.trail.steps (length e.store.trail.steps))
      (λ m v. let w : IsMade e.store.trail.steps m = h.engine.store.trail.coherent.was_made m v in (
        w.0,
        w.1,
        slice_get_within e.store.trail.steps w.0 w.1 w.2,
        front-at e.store.trail.steps f.store.trail.steps
            kept w.0 w.1 w.2,
        w.3,
      ))
      assume trues

  pub decide-turn : (assume : List Lit) → IsTurn assume e → Contains assume t.lit ⊎ AreTrue e.store.trail.values assume
      → IsTurn assume f
  decide-turn assume turn why = record {
    decisions = λ k u at no-reason. ⊎_elim
        (λ o. ⊎_elim
        (λ c. inl c)
        (λ (m : All (IsMadeBefore e.store.trail.steps k) assume).
        inr (All-weaker (IsMadeBefore e.store.trail.steps k) (IsMadeBefore f.store.trail.steps k)
        (before-later k) assume m))
        (turn.decisions k u o no-reason))
        (λ n. ⊎_elim
        (λ c. inl (subst (λ (x : Step). Contains assume x.lit) (sym n.1) c))
        (λ trues. inr (subst (λ (j : ℕ). All (IsMadeBefore f.store.trail.steps j) assume) (sym n.0)
        (all-before assume trues)))
        why)
        (slice_get-push_cases e.store.trail.steps t k u (ap (λ (xs : List Step). slice_get xs k) (sym steps-are) ∙ at));
    trues = rw same.assumed (front-trues e.store.trail.values f.store.trail.values e.store.trail.steps
        f.store.trail.steps h.engine.store.trail.coherent laws.trail.coherent kept (take e.assumed assume) turn.trues);
  }

  decided-bit : implied_of (t ∷ []) ≡ false ∷ []
  decided-bit = rw none refl

  bits-are : implied_of f.store.trail.steps ≡ implied_of e.store.trail.steps ++ false ∷ []
  bits-are = ap implied_of steps-are ∙ (bits-append e.store.trail.steps (t ∷ [])
      ∙ ap (λ bs. implied_of e.store.trail.steps ++ bs) decided-bit)

  pub decide-goes : (goal : ℕ) → AheadAt e goal → AheadAt f (goal + 1)
  decide-goes goal a =
      let r = room-for f decide-search in
      let fits : length (implied_of e.store.trail.steps ++ false ∷ []) + r.0 ≡ e.problem.vars =
      ap (λ bs. length bs + r.0) (sym bits-are) ∙ (r.1 ∙ ap (λ (q : ProblemState). q.vars) same.problem) in
      let here : Ahead e.problem.vars (implied_of e.store.trail.steps ++ false ∷ []) (paid_of e) (goal + 1) =
      decide-ahead e.problem.vars (implied_of e.store.trail.steps) (paid_of e) goal r.0 fits a in
      rw (bits-are, same.problem, same.conflicts, same.base) here
