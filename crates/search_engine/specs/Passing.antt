-- Clauses that are held only as long as one of their literals is true.
use Rattle.std.specs.Prelude.{◌≡◌, ℕ, Option, Some, List, length, slice_get, Contains}
use Rattle.lit_core.specs.declared.literals.Lit.{Lit}

-- some clauses of the first list of numbers were removed, and no others; the second list has the numbers that are left
pub record GivesBack (passing : List ℕ) (old : List (Option (List Lit))) (left : List ℕ)
    (new : List (Option (List Lit))) : Type 0 where
  pub size : length new ≡ length old
  pub back : (id : ℕ) (k : List Lit) → slice_get new id ≡ Some (Some k) → slice_get old id ≡ Some (Some k)
  pub there : (id : ℕ) (k : List Lit) → slice_get old id ≡ Some (Some k) → (Contains passing id → ⊥)
      → slice_get new id ≡ Some (Some k)
  pub among : (id : ℕ) → Contains left id → Contains passing id
