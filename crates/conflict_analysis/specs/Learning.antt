-- The clause that is learnt, by the places of its literals.
use Rattle.std.specs.Prelude.{◌≡◌, ℕ, ◌<◌, ◌≤◌, Some, List, [], slice_get, Contains, ◌⊎◌}
use Rattle.lit_core.specs.declared.literals.Lit.{Lit}
use Rattle.lit_core.specs.Literals.{negated, HasEachOnce}
use Rattle.clause_store.specs.declared.trails.Step.{Step}
use Rattle.conflict_analysis.specs.Resolvents.{IsMadeAt}

-- the level of the last of these places, or 0 where there is none
abbrev pub IsLastLevel : List Step → List ℕ → ℕ → Type 0
IsLastLevel steps places level = ((places ≡ []) × (level ≡ 0)) ⊎ ((last : ℕ) × (t : Step) × Contains places last
    × (slice_get steps last ≡ Some t) × (t.level ≡ level) × ((k : ℕ) → Contains places k → k ≤ last))

-- the literals that became false at this place and at the lower ones, each once, this one's first
pub record IsClauseOf (steps : List Step) (place : ℕ) (lower : List ℕ) (c : List Lit) : Type 0 where
  pub asserting : Lit
  pub first : slice_get c 0 ≡ Some asserting
  pub made : IsMadeAt steps place (negated asserting)
  pub all : (k : ℕ) (t : Step) → Contains lower k → slice_get steps k ≡ Some t → Contains c (negated t.lit)
  pub from : (m : Lit) → Contains c m → (m ≡ asserting) ⊎ ((k : ℕ) × Contains lower k × IsMadeAt steps k (negated m))
  pub once : HasEachOnce c

-- the clause so far: the places that are left are below those of its literals
pub record IsClauseAbove (steps : List Step) (place : ℕ) (lower left : List ℕ) (c : List Lit) : Type 0 where
  pub asserting : Lit
  pub first : slice_get c 0 ≡ Some asserting
  pub made : IsMadeAt steps place (negated asserting)
  pub among : (k : ℕ) → Contains left k → Contains lower k
  pub all : (k : ℕ) (t : Step) → Contains lower k → slice_get steps k ≡ Some t
      → Contains left k ⊎ Contains c (negated t.lit)
  pub from : (m : Lit) → Contains c m → (m ≡ asserting) ⊎ ((k : ℕ) × Contains lower k × IsMadeAt steps k (negated m))
  pub above : (m : Lit) → Contains c m → (k : ℕ) × IsMadeAt steps k (negated m) × ((j : ℕ) → Contains left j → j < k)
  pub once : HasEachOnce c
