use Rattle.std.proofs.Common.{◌≡◌, ℕ}
use Rattle.clause_store.specs.StoreState.{IsConflict}
use Rattle.search_engine.specs.Searching.{Continues, IsSearch, KeepsAssumed, StandsAt}
use Rattle.search_engine.proofs.engine.Engine.settle.Given as goal

-- a clause is false, and the conflicts before it are counted
abbrev pub invariant-loop-next : goal.invariant-loop-next
invariant-loop-next l = record {
  search : IsSearch l.self;
  same : Continues l.fn.self l.self;
  decisions : KeepsAssumed l.fn.self.store.trail.steps l.self.store.trail.steps;
  conflict : IsConflict l.self.store l.conflict;
  unrefuted : l.self.root_conflicts ≡ 0;
  learnt : l.self.learnt ≡ l.fn.self.learnt;
  stands : (goal : ℕ) → StandsAt l.fn.self goal → StandsAt l.self goal;
}

abbrev pub decreases-loop-next : goal.decreases-loop-next
decreases-loop-next l = l.self.store.trail.level
