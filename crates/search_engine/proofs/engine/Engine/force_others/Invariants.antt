use Rattle.std.proofs.Common.{◌≡◌, ℕ, List}
use Rattle.lit_core.specs.declared.literals.Lit.{Lit}
use Rattle.search_engine.specs.Searching.{AheadAt, Continues, IsSearch, IsTurn}
use Rattle.search_engine.proofs.engine.Engine.force_others.Given as goal

-- the search goes on, and has come no less far
abbrev pub invariant-loop-place : goal.invariant-loop-place
invariant-loop-place l = record {
  search : IsSearch l.self;
  same : Continues l.fn.self l.self;
  turn : (assume : List Lit) → IsTurn assume l.fn.self → IsTurn assume l.self;
  learnt : l.self.learnt ≡ l.fn.self.learnt;
  refuted : l.self.root_conflicts ≡ l.fn.self.root_conflicts;
  stays : (goal : ℕ) → AheadAt l.fn.self goal → AheadAt l.self goal;
}
