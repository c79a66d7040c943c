-- What constraints on sums imply.
use Rattle.std.specs.Prelude.{◌≡◌, ℕ, Bool, Option, Some, List, All, Any, slice_get, ◌⊎◌}
use Rattle.lit_core.specs.declared.literals.Lit.{Lit}
use Rattle.lit_core.specs.Truth.{IsFalsified, IsSatisfied, IsUnitAt}
use Rattle.ground_core.specs.declared.parts.AggCon.{AggCon}
use Rattle.ground_core.specs.Meaning.{SumHolds}
use Rattle.aggregate_propagators.specs.Implied.{IsOfSum}

-- the clause holds wherever the constraint does, and is of its variables
pub record IsOf (s : AggCon) (c : List Lit) : Type 0 where
  pub holds : (v : ℕ → Bool) → SumHolds v s → IsSatisfied v c
  pub variables : All (λ l. IsOfSum l s) c

-- the clause is false now or has one literal left, and one of the constraints implies it
pub record IsImplied (sums : List AggCon) (a : List (Option Bool)) (c : List Lit) : Type 0 where
  pub acts : IsFalsified a c ⊎ ((l : Lit) × IsUnitAt a c l)
  pub by : Any (λ s. IsOf s c) sums

-- the same, by the constraint at this place
pub record IsImpliedAt (sums : List AggCon) (a : List (Option Bool)) (place : ℕ) (c : List Lit) : Type 0 where
  pub acts : IsFalsified a c ⊎ ((l : Lit) × IsUnitAt a c l)
  pub sum : AggCon
  pub there : slice_get sums place ≡ Some sum
  pub by : IsOf sum c
