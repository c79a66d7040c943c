-- Literals that a learnt clause can do without.
use Rattle.std.specs.Prelude.{◌≡◌, ℕ, Some, List, reverse, slice_get, Contains, ◌⊎◌}
use Rattle.std.specs.List.{AllZip}
use Rattle.lit_core.specs.declared.literals.Lit.{Lit}
use Rattle.lit_core.specs.Literals.{negated}
use Rattle.lit_core.specs.Refutation.{RefutesInOrder}
use Rattle.clause_store.specs.declared.trails.Step.{Step}
use Rattle.clause_store.specs.StoreState.{StoreState, IsHeld}
use Rattle.conflict_analysis.specs.Resolvents.{IsMadeAt, IsUpper, IsLower}
use Rattle.conflict_analysis.specs.Tracing.{IsSourced}

-- in force are the literals that were made true at these places, and no others
pub record AreInForce (steps : List Step) (made : ℕ → Type 0) (inforce : List Lit) : Type 0 where
  pub all : (l : Lit) (k : ℕ) → made k → IsMadeAt steps k l → Contains inforce l
  pub from : (l : Lit) → Contains inforce l → (k : ℕ) × made k × IsMadeAt steps k l

-- the place, or one of these
abbrev pub IsLeftAt : ℕ → (ℕ → Type 0) → ℕ → Type 0
IsLeftAt place among k = (k ≡ place) ⊎ among k

-- the hints, last first, refute what was made true at a place of the current level and at these places of lower levels
pub record IsShort (s : StoreState) (place : ℕ) (among : ℕ → Type 0) (hints : List ℕ) : Type 0 where
  pub hinted : List (List Lit)
  pub held : AllZip (IsHeld s) (reverse hints) hinted
  pub refuted : (inforce : List Lit) → AreInForce s.trail.steps (IsLeftAt place among) inforce
      → RefutesInOrder inforce hinted
  pub current : IsUpper s.trail.steps s.trail.level place
  pub lower : (k : ℕ) → among k → IsLower s.trail.steps s.trail.level k
  pub sourced : (k : ℕ) → IsLeftAt place among k → IsSourced s k

-- the step at the place follows by the clause with this number from literals that became false at these places
pub record IsRedundant (s : StoreState) (place : ℕ) (lower : List ℕ) (id : ℕ) : Type 0 where
  pub step : Step
  pub stands : slice_get s.trail.steps place ≡ Some step
  pub reason : step.reason ≡ Some id
  pub clause : List Lit
  pub held : IsHeld s id clause
  pub others : (m : Lit) → Contains clause m → (m ≡ step.lit)
      ⊎ ((k : ℕ) × Contains lower k × IsMadeAt s.trail.steps k (negated m))

-- places that are still to be looked at, or are kept
abbrev pub IsLeftOrKept : List ℕ → List ℕ → ℕ → Type 0
IsLeftOrKept left kept k = Contains left k ⊎ Contains kept k
