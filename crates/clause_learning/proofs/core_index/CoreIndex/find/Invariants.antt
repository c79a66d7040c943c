use Rattle.std.proofs.Common.{◌≡◌, ℕ, ◌<◌, Some, List, slice_get, get_or, All}
use Rattle.lit_core.specs.declared.literals.Lit.{Lit}
use Rattle.search_engine.specs.LitSets.{HasLit}
use Rattle.clause_learning.specs.CoreIndexes.{EndsWith}
use Rattle.clause_learning.proofs.core_index.CoreIndex.find.Given as goal

-- no core serves that ends with one of the literals so far
abbrev pub invariant-loop-lit : goal.invariant-loop-lit
invariant-loop-lit l = (i : ℕ) (d : Lit) → i < l.lit-index → (j : ℕ) (c : List Lit) → slice_get l.self.cores.items j
    ≡ Some c → EndsWith l.self j (get_or l.lits i d) → All (HasLit l.set) c → ⊥
