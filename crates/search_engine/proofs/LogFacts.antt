-- What was stated in the log changes nothing else.
use Rattle.std.proofs.Common.{◌≡◌, ℕ, Bool, List, [], ◌∷◌, ◌++◌, length, take, refl, sym, ap, ◌∙◌}
use Rattle.std.proofs.Common.{arith}
use Rattle.std.specs.Prelude.{Result, Ok, Err, OnErr}
use Rattle.std.proofs.lemmas.List.{append-nil}
use Rattle.kb_logic.specs.declared.elements.ExtInt.{ExtInt}
use Rattle.lit_core.specs.declared.literals.Lit.{Lit}
use Rattle.clause_store.specs.TrailLaws.{CutsAt}
use Rattle.clause_store.specs.StoreState.{StoreState, IsStore}
use Rattle.search_log.specs.Entries.{Grows}
use Rattle.search_log.specs.Logs.{LogState}
use Rattle.search_engine.specs.declared.engine.Engine.{Engine}
use Rattle.search_engine.specs.Resting.{Bounds, Excludes, IsResting, SameSearches, Stays}
use Rattle.search_engine.specs.Searching.{Continues, IsEngine, IsSearch, IsTurn, KeepsAssumed}
use Rattle.search_engine.proofs.DecideFacts.{with_store}
use Rattle.search_engine.proofs.PassingFacts.{passing-moves}
use Rattle.search_engine.proofs.Pushed.{front-refl}
use Rattle.search_engine.proofs.SearchFacts.{Moves, moves-continues, search-moves}
use Rattle.search_engine.proofs.TrailChange.{cut-assumed, cut-orderly}

-- the engine with another log
abbrev pub with_log : Engine → LogState → Engine
with_log e l = record {
  alloc = e.alloc;
  problem = e.problem;
  store = e.store;
  learnt = e.learnt;
  ids = e.ids;
  passing = e.passing;
  moments = e.moments;
  decider = e.decider;
  ledger = e.ledger;
  log = l;
  searches = e.searches;
  known = e.known;
  conflicts = e.conflicts;
  root_conflicts = e.root_conflicts;
  assumed = e.assumed;
  closed = e.closed;
  base = e.base;
}

engine-logged : (e : Engine) (l : LogState) → IsEngine e → IsEngine (with_log e l)
engine-logged e l h = record {
  problem = h.problem;
  within = h.within;
  closed = h.closed;
  learnt = h.learnt;
  knows = h.knows;
  store = h.store;
  sized = h.sized;
}

pub search-logged : (e : Engine) (l : LogState) → IsSearch e → IsSearch (with_log e l)
search-logged e l h = record {
  engine = engine-logged e l h.engine;
  orderly = h.orderly;
  counted = h.counted;
  fewer = h.fewer;
  once = h.once;
  closed = h.closed;
  passing = passing-moves e (with_log e l) h.passing refl refl refl refl refl;
}

pub turn-logged : (e : Engine) (l : LogState) (assume : List Lit) → IsTurn assume e → IsTurn assume (with_log e l)
turn-logged e l assume t = record { decisions = t.decisions; trues = t.trues }

pub resting-logged : (e : Engine) (l : LogState) → IsResting e → IsResting (with_log e l)
resting-logged e l h = record {
  engine = engine-logged e l h.engine;
  level = h.level;
  orderly = h.orderly;
  fewer = h.fewer;
  once = h.once;
}

same-logged : (e : Engine) (l : LogState) (f : Engine) (m : LogState) → SameSearches (with_log e l) f
    → SameSearches e (with_log f m)
same-logged e l f m h = record {
  learnt = h.learnt;
  moments = h.moments;
  searches = h.searches;
  conflicts = h.conflicts;
  root_conflicts = h.root_conflicts;
}

same-from : (e : Engine) (l : LogState) (f : Engine) → SameSearches (with_log e l) f → SameSearches e f
same-from e l f h = record {
  learnt = h.learnt;
  moments = h.moments;
  searches = h.searches;
  conflicts = h.conflicts;
  root_conflicts = h.root_conflicts;
}

pub excludes-logged : (e : Engine) (l : LogState) (values : List Bool) (f : Engine) → Excludes (with_log e l) values f
    → Excludes e values f
excludes-logged e l values f h = record { problem = h.problem; same = same-from e l f h.same }

-- and where all that is seen stays after that
pub excludes-stays : (d e : Engine) (values : List Bool) (f : Engine) → Excludes d values e → Stays e f
    → Excludes d values f
excludes-stays d e values f h s = record {
  problem = s.problem ∙ h.problem;
  same = record {
    learnt = s.same.learnt ∙ h.same.learnt;
    moments = s.same.moments ∙ h.same.moments;
    searches = s.same.searches ∙ h.same.searches;
    conflicts = s.same.conflicts ∙ h.same.conflicts;
    root_conflicts = s.same.root_conflicts ∙ h.same.root_conflicts;
  };
}

pub bounds-logged : (e : Engine) (l : LogState) (term : ℕ) (below : ExtInt) (f : Engine)
    → Bounds (with_log e l) term below f → Bounds e term below f
bounds-logged e l term below f h = record { problem = h.problem; same = same-from e l f h.same }

pub stays-logged : (e : Engine) (l : LogState) (f : Engine) (m : LogState) → Stays (with_log e l) f
    → Stays e (with_log f m)
stays-logged e l f m h = record { problem = h.problem; held = h.held; same = same-logged e l f m h.same }

-- only the log was written
pub stays-only : (e : Engine) (l : LogState) → Stays e (with_log e l)
stays-only e l = record {
  problem = refl;
  held = refl;
  same = record { learnt = refl; moments = refl; searches = refl; conflicts = refl; root_conflicts = refl };
}

take-front : (xs ys : List ℕ) → take (length xs) (xs ++ ys) ≡ xs
take-front [] [] = refl
take-front [] (y ∷ ys) = refl
take-front (x ∷ xs) ys = ap (λ (t : List ℕ). x ∷ t) (take-front xs ys)

-- what was written since then is taken away
grown-taken : (n : ℕ) (xs ys : List ℕ) → Grows xs ys → n ≡ length xs → take n ys ≡ xs
grown-taken n xs ys g size = ap (λ (k : ℕ). take k ys) size ∙ (ap (λ (t : List ℕ). take (length xs) t) g.2 ∙ take-front xs _)

pub taken-back : (n : ℕ) (old noted new : LogState) → new ≡ noted → Grows old.entries noted.entries
    → n ≡ length old.entries → take n new.entries ≡ old.entries
taken-back n old noted new same g size = ap (λ (s : LogState). take n s.entries) same
    ∙ grown-taken n old.entries noted.entries g size

pub on-err : {A E : Type 0} (r : Result A E) (P : Type 0) → P → OnErr r P
on-err (Ok x) P h = tt
on-err (Err x) P h = h

-- only what there is room for differs
pub spare-continues : (e f : Engine) → f.problem ≡ e.problem → f.searches ≡ e.searches → f.known ≡ e.known
    → f.base ≡ e.base → f.learnt ≡ e.learnt → f.moments.items ≡ e.moments.items → Continues e f
spare-continues e f problem searches known base learnt moments = record {
  problem = problem;
  searches = searches;
  known = known;
  base = base;
  learnt = front-refl e.learnt ∙ ap (take (length e.learnt)) (sym learnt);
  now = (0, ap length learnt ∙ omega arith, moments ∙ sym (append-nil e.moments.items));
}

-- back at level 0
module _ (e : Engine) (s : StoreState) (l : LogState) (cut : CutsAt 0 e.store.trail s.trail)
    (clauses : s.clauses ≡ e.store.clauses) (laws : IsStore s) (h : IsSearch e) where
  back-moves : Moves e (with_log (with_store e s) l)
  back-moves = record {
    problem = refl;
    learnt = refl;
    ids = refl;
    passing = refl;
    moments = refl;
    known = refl;
    searches = refl;
    closed = refl;
    base = refl;
    clauses = clauses;
    size = cut.size;
  }

  pub back-search : IsSearch (with_log (with_store e s) l)
  back-search = search-moves e (with_log (with_store e s) l) back-moves laws
      (cut-orderly 0 e.store.trail s.trail cut e.problem.vars h.orderly) (omega arith) h.fewer h.once h

  pub back-continues : Continues e (with_log (with_store e s) l)
  back-continues = moves-continues e (with_log (with_store e s) l) back-moves

  pub back-assumed : KeepsAssumed e.store.trail.steps s.trail.steps
  back-assumed = cut-assumed 0 e.store.trail s.trail cut
