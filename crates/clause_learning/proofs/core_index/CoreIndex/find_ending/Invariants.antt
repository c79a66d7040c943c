use Rattle.std.proofs.Common.{◌≡◌, ℕ, ◌+◌, ◌<◌, Some, List, slice_get, All}
use Rattle.lit_core.specs.declared.literals.Lit.{Lit}
use Rattle.search_engine.specs.LitSets.{HasLit}
use Rattle.clause_learning.specs.CoreIndexes.{EndsWith}
use Rattle.clause_learning.proofs.core_index.CoreIndex.find_ending.Given as goal

-- a core that serves is at this place or before it
abbrev pub invariant-loop-at : goal.invariant-loop-at
invariant-loop-at l = record {
  ends : (j : ℕ) → l.at ≡ j + 1 → EndsWith l.self j l.fn.lit;
  rest : (j : ℕ) (c : List Lit) → slice_get l.self.cores.items j ≡ Some c → EndsWith l.self j l.fn.lit
      → All (HasLit l.set) c → j < l.at;
}

abbrev pub decreases-loop-at : goal.decreases-loop-at
decreases-loop-at l = l.at
