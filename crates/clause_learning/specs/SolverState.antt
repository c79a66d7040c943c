-- A solver as its callers see it.
use Rattle.std.specs.Prelude.{◌≡◌, ℕ, ◌+◌, ◌-◌, ◌<◌, ◌≤◌, ◌^◌, Bool, Option, List, [], length, slice_get, option_map}
use Rattle.std.specs.Prelude.{All, Contains, ◌⊎◌}
use Rattle.lit_core.specs.declared.literals.Lit.{Lit}
use Rattle.lit_core.specs.Truth.{IsSatisfied}
use Rattle.clause_store.specs.StoreState.{IsEachOnceOf}
use Rattle.ground_core.specs.Problems.{ProblemState}
use Rattle.ground_core.specs.declared.parts.TermBound.{TermBound}
use Rattle.ground_core.specs.Meaning.{Satisfies}
use Rattle.ground_core.specs.GateClauses.{clauses_of}
use Rattle.ground_core.specs.Growth.{empty_problem}
use Rattle.ground_core.specs.Solving.{SolveState, IsKept, IsLive}
use Rattle.search_engine.specs.Joining.{joined_problem}
use Rattle.search_engine.specs.Knowledge.{IsOneOf, IsOfConstraint, Occurs}

pub record SolverState : Type 0 where
  -- what contracts see of every solver
  pub kept : SolveState
  -- the clauses that it searches with, each with every literal once
  pub held : List (List Lit)
  -- how many conflicts the last search met above level 0, and at level 0
  pub conflicts : ℕ
  pub root_conflicts : ℕ
  -- the bytes of what it stated on the way, where a log is kept
  pub entries : List ℕ

-- some held clause has the same literals
abbrev pub HasClause : List (List Lit) → List Lit → Type 0
HasClause held c = (k : List Lit) × Contains held k × IsEachOnceOf c k

-- what holds of this solver while no search is running
pub record IsSolver (s : SolverState) : Type 0 where
  pub kept : IsKept s.kept
  -- whatever was assumed: each held clause is true wherever the problem holds
  pub implied : (v : ℕ → Bool) → Satisfies s.kept.problem v → All (IsSatisfied v) s.held
  -- each clause of the problem without a retired selector is held, and each learnt one
  pub said_held : (c : List Lit) → Contains (clauses_of s.kept.problem) c → IsLive s.kept.problem.retired c
      → HasClause s.held c
  pub learnt_held : All (HasClause s.held) s.kept.learnt
  -- and what is held is one of these, or holds wherever one constraint of the problem does
  pub from : All (λ k. (IsOneOf (clauses_of s.kept.problem) k ⊎ IsOneOf s.kept.learnt k)
      ⊎ IsOfConstraint s.kept.problem k) s.held
  -- each literal of a held clause stands in a clause of the problem, or a constraint or a term has its variable
  pub occurs : All (All (Occurs s.kept.problem)) s.held
  pub fewer : s.conflicts < 2 ^ s.kept.problem.vars
  pub once : s.root_conflicts ≤ 1

-- of no variables, for which nothing is said
abbrev pub empty_state : SolveState
empty_state = record {
  problem = empty_problem [];
  learnt = [];
  moments = [];
  cores = [];
  free = 0;
  searches = 0;
  additions = [];
}

abbrev pub empty_solver : SolverState
empty_solver = record { kept = empty_state; held = []; conflicts = 0; root_conflicts = 0; entries = [] }

-- what another problem says is said, too
abbrev pub joined_state : SolveState → ProblemState → SolveState
joined_state s q = record {
  problem = joined_problem s.problem q;
  learnt = s.learnt;
  moments = s.moments;
  cores = s.cores;
  free = s.free + (q.vars - s.problem.vars);
  searches = s.searches;
  additions = s.additions;
}

-- what is said by the problem was added to what was said
pub record AddsProblem (old : SolverState) (more : ProblemState) (new : SolverState) : Type 0 where
  pub kept : new.kept ≡ joined_state old.kept more
  pub conflicts : new.conflicts ≡ old.conflicts
  pub root_conflicts : new.root_conflicts ≡ old.root_conflicts
  pub entries : new.entries ≡ old.entries

-- what was learnt is given up, with the kept cores
abbrev pub forgotten : SolveState → SolveState
forgotten s = record {
  problem = s.problem;
  learnt = [];
  moments = [];
  cores = [];
  free = s.free;
  searches = s.searches;
  additions = s.additions;
}

-- and nothing else
pub record Forgets (old new : SolverState) : Type 0 where
  pub kept : new.kept ≡ forgotten old.kept
  pub conflicts : new.conflicts ≡ old.conflicts
  pub root_conflicts : new.root_conflicts ≡ old.root_conflicts
  pub entries : new.entries ≡ old.entries

-- the entries were taken away
abbrev pub without_entries : SolverState → SolverState
without_entries s = record {
  kept = s.kept;
  held = s.held;
  conflicts = s.conflicts;
  root_conflicts = s.root_conflicts;
  entries = [];
}

-- the selector of the last bound
abbrev pub last_output : List TermBound → Option Lit
last_output bs = option_map (λ (b : TermBound). b.out) (slice_get bs (length bs - 1))

-- the counts of the last search stay
pub record SameCounts (old new : SolverState) : Type 0 where
  pub conflicts : new.conflicts ≡ old.conflicts
  pub root_conflicts : new.root_conflicts ≡ old.root_conflicts
