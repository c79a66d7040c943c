-- Clauses that are removed while literals are true.
use Rattle.std.specs.Prelude.{◌≡◌, ℕ, Bool, true, false, Some, List, Contains}
use Rattle.lit_core.specs.declared.literals.Lit.{Lit}
use Rattle.lit_core.specs.Literals.{value_in}
use Rattle.clause_base.specs.StoreState.{StoreState, IsHeld, without_clause}

-- the clause with this number is held, and one of its literals is true
abbrev pub HasTrue : StoreState → ℕ → Type 0
HasTrue s id = (c : List Lit) × (l : Lit) × IsHeld s id c × Contains c l × (value_in s.trail.values l ≡ Some true)

-- the clause is gone, and no literal of it was true; or one is, and all stays
abbrev pub Releases : StoreState → ℕ → StoreState → Bool → Type 0
Releases old id new true = (new ≡ without_clause old id) × (HasTrue old id → ⊥)
Releases old id new false = (new ≡ old) × HasTrue old id
