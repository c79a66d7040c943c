-- What contracts see of a solver.
use Rattle.search_engine.specs.Resting.{held_of}
use Rattle.clause_learning.specs.declared.keeper.Keeper.{Keeper}
use Rattle.clause_learning.specs.Keeping.{kept_of}
use Rattle.clause_learning.specs.SolverState.{SolverState}

-- its keeper as its callers see it
abbrev pub state_of : Keeper → SolverState
state_of a = record {
  kept = kept_of a;
  held = held_of a.engine.store.clauses;
  conflicts = a.engine.conflicts;
  root_conflicts = a.engine.root_conflicts;
  entries = a.engine.log.entries;
}
