use Rattle.std.proofs.Common.{◌≡◌, ◌≤◌, length, take}
use Rattle.clause_store.specs.StoreState.{IsStore}
use Rattle.search_engine.specs.Knowledge.{Pushes}
use Rattle.search_engine.proofs.pushing.push_clauses.Given as goal

-- the clauses so far are held
abbrev pub invariant-loop-place : goal.invariant-loop-place
invariant-loop-place l = record {
  trail : l.store.trail ≡ l.fn.store.trail;
  within : l.place ≤ length l.clauses;
  pushed : Pushes l.fn.store.clauses l.store.clauses (take l.place l.clauses);
  laws : IsStore l.store;
}
