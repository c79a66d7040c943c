use Rattle.std.proofs.Common.{◌≡◌, take}
use Rattle.clause_store.specs.StoreState.{IsStore}
use Rattle.search_engine.specs.Knowledge.{RemovesAll}
use Rattle.search_engine.proofs.pushing.remove_all.Given as goal

-- the clauses so far were removed
abbrev pub invariant-loop-id : goal.invariant-loop-id
invariant-loop-id l = record {
  trail : l.store.trail ≡ l.fn.store.trail;
  removed : RemovesAll (take l.id-index l.ids) l.fn.store.clauses l.store.clauses;
  laws : IsStore l.store;
}
