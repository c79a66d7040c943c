use Rattle.std.proofs.Common.{◌≡◌}
use Rattle.clause_store.specs.StoreState.{IsStore}
use Rattle.search_engine.proofs.Pushed.{RemovesBetween}
use Rattle.search_engine.proofs.pushing.remove_from.Given as goal

-- the clauses below this number were removed
abbrev pub invariant-loop-id : goal.invariant-loop-id
invariant-loop-id l = record {
  trail : l.store.trail ≡ l.fn.store.trail;
  removed : RemovesBetween l.fn.first l.id l.fn.store.clauses l.store.clauses;
  laws : IsStore l.store;
}
