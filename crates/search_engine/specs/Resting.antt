-- What holds while no search is running.
use Rattle.std.specs.Prelude.{ℕ, ◌≡◌, ◌^◌, ◌<◌, ◌≤◌, Bool, true, false, Option, Some, None, List, [], ◌∷◌, length, take}
use Rattle.lit_core.specs.declared.literals.Lit.{Lit}
use Rattle.clause_store.specs.StoreState.{IsStore, IsQuiet}
use Rattle.search_engine.specs.declared.engine.Engine.{Engine}
use Rattle.ground_core.specs.Problems.{ProblemState}
use Rattle.ground_core.specs.Meaning.{RefutesAll}
use Rattle.kb_logic.specs.declared.elements.ExtInt.{ExtInt}
use Rattle.ground_core.specs.Growth.{empty_problem, with_bound, with_exclusion}
use Rattle.kept_problem.specs.Joining.{joined_problem}
use Rattle.search_engine.specs.Searching.{IsEngine, IsOrderly}

-- the clauses that are held, in order
abbrev pub held_of : List (Option (List Lit)) → List (List Lit)
held_of [] = []
held_of (None ∷ cs) = held_of cs
held_of (Some c ∷ cs) = c ∷ held_of cs

-- all that is assigned follows, and the last search met few conflicts
pub record IsResting (e : Engine) : Type 0 where
  pub engine : IsEngine e
  pub level : e.store.trail.level ≡ 0
  pub orderly : IsOrderly e.problem.vars e.store.trail.steps
  pub fewer : e.conflicts < 2 ^ e.problem.vars
  pub once : e.root_conflicts ≤ 1

-- a solver of no variables, for which nothing is said
pub record IsNew (e : Engine) : Type 0 where
  pub problem : e.problem ≡ empty_problem []
  pub learnt : e.learnt ≡ []
  pub moments : e.moments.items ≡ []
  pub clauses : e.store.clauses ≡ []
  pub searches : e.searches ≡ 0
  pub conflicts : e.conflicts ≡ 0
  pub root_conflicts : e.root_conflicts ≡ 0

-- only the problem and the held clauses differ
pub record SameSearches (old new : Engine) : Type 0 where
  pub learnt : new.learnt ≡ old.learnt
  pub moments : new.moments ≡ old.moments
  pub searches : new.searches ≡ old.searches
  pub conflicts : new.conflicts ≡ old.conflicts
  pub root_conflicts : new.root_conflicts ≡ old.root_conflicts

-- what was learnt, the counts and the clauses of retired selectors stay
pub record SameLists (old new : Engine) : Type 0 where
  pub same : SameSearches old new
  pub ids : new.ids ≡ old.ids
  pub closed : new.closed ≡ old.closed

-- room was made for variables
pub record Reserves (old new : Engine) : Type 0 where
  pub problem : new.problem ≡ old.problem
  pub lists : SameLists old new
  pub clauses : new.store.clauses ≡ old.store.clauses

-- what is seen of it is the same
pub record Stays (old new : Engine) : Type 0 where
  pub problem : new.problem ≡ old.problem
  pub held : held_of new.store.clauses ≡ held_of old.store.clauses
  pub same : SameSearches old new

-- a selector was added under which the atoms differ from these values
pub record Excludes (old : Engine) (values : List Bool) (new : Engine) : Type 0 where
  pub problem : new.problem ≡ with_exclusion old.problem values
  pub same : SameSearches old new

-- a selector was added under which the term is below the number
pub record Bounds (old : Engine) (term : ℕ) (below : ExtInt) (new : Engine) : Type 0 where
  pub problem : new.problem ≡ with_bound old.problem term below
  pub same : SameSearches old new

-- only the held clauses and the trail differ
pub record KeepsProblem (old new : Engine) : Type 0 where
  pub problem : new.problem ≡ old.problem
  pub same : SameSearches old new
  pub known : new.known ≡ old.known
  pub assumed : new.assumed ≡ old.assumed

-- nothing is left to propagate, and every retired selector is one of those that are false before a search; or the
-- problem is refuted
abbrev pub IsBegun : Engine → Bool → Type 0
IsBegun e true = IsQuiet e.store × (e.base ≡ length e.store.trail.steps) × (e.closed ≡ length e.problem.retired)
    × (length e.problem.retired ≤ e.base)
IsBegun e false = RefutesAll e.problem []

-- what the other problem says is said, too
pub record Grows (old : Engine) (more : ProblemState) (new : Engine) : Type 0 where
  pub problem : new.problem ≡ joined_problem old.problem more
  pub same : SameSearches old new

-- clauses were added at the end of those that are held, and nothing else
pub record IsHalfDone (old new : Engine) : Type 0 where
  pub problem : new.problem ≡ old.problem
  pub same : SameSearches old new
  pub ids : new.ids ≡ old.ids
  pub closed : new.closed ≡ old.closed
  pub trail : new.store.trail ≡ old.store.trail
  pub store : IsStore new.store
  pub front : old.store.clauses ≡ take (length old.store.clauses) new.store.clauses
