-- What holds of every trail, and how it changes.
use Rattle.std.specs.Prelude.{◌≡◌, ℕ, ◌<◌, ◌≤◌, ◌+◌, ◌-◌, Bool, true, is_some, nat_le, Option, Some, None, List, []}
use Rattle.std.specs.Prelude.{◌∷◌, ◌++◌, length, map, take, replicate, slice_get, slice_set, count_by, ◌⊎◌}
use Rattle.lit_core.specs.declared.literals.Lit.{Lit}
use Rattle.lit_core.specs.declared.literals.Var.{Var}
use Rattle.lit_core.specs.Literals.{value_in}
use Rattle.clause_base.specs.declared.trail.Step.{Step}
use Rattle.clause_base.specs.TrailState.{TrailState}

-- the literals that the steps made true, in order
abbrev pub lits_of : List Step → List Lit
lits_of steps = map (λ (t : Step). t.lit) steps

-- some step made the literal true
abbrev pub IsMade : List Step → Lit → Type 0
IsMade steps l = (k : ℕ) × (t : Step) × (slice_get steps k ≡ Some t) × (t.lit ≡ l)

-- this step on the trail gave the variable its value
abbrev pub IsStepOf : TrailState → Var → Step → Type 0
IsStepOf s v t = (k : ℕ) × (slice_get s.steps k ≡ Some t) × (t.lit.var ≡ v)

-- the literal was made true at level 0 without a reason
abbrev pub IsFixed : TrailState → Lit → Type 0
IsFixed s l = (k : ℕ) × (t : Step) × (slice_get s.steps k ≡ Some t) × (t.lit ≡ l) × (t.level ≡ 0) × (t.reason ≡ None)

-- the values are those that the steps gave, and levels rise
pub record IsCoherent (values : List (Option Bool)) (steps : List Step) : Type 0 where
  pub are_true : (k : ℕ) (t : Step) → slice_get steps k ≡ Some t → value_in values t.lit ≡ Some true
  pub in_range : (k : ℕ) (t : Step) → slice_get steps k ≡ Some t → t.lit.var.0 < length values
  pub was_made : (l : Lit) → value_in values l ≡ Some true → IsMade steps l
  pub apart : (i k : ℕ) (t u : Step) → slice_get steps i ≡ Some t → slice_get steps k ≡ Some u
      → t.lit.var.0 ≡ u.lit.var.0 → i ≡ k
  pub once : count_by is_some values ≡ length steps
  pub rising : (i k : ℕ) (t u : Step) → i ≤ k → slice_get steps i ≡ Some t → slice_get steps k ≡ Some u
      → t.level ≤ u.level
  -- a decision is above all before it; at level 0 a step without a reason is a fixed literal
  pub opens : (i k : ℕ) (t u : Step) → i < k → slice_get steps i ≡ Some t → slice_get steps k ≡ Some u → u.reason ≡ None
      → (u.level ≡ 0) ⊎ (t.level < u.level)

-- each level up to this one was opened by a decision
abbrev pub HasDecisions : List Step → ℕ → Type 0
HasDecisions steps level = (n : ℕ) → 0 < n → n ≤ level → (k : ℕ) × (t : Step) × (slice_get steps k ≡ Some t)
    × (t.level ≡ n) × (t.reason ≡ None)

-- up to this level each level has a step of its own
abbrev pub IsDense : List Step → ℕ → Type 0
IsDense steps level = (n : ℕ) → n ≤ level → n ≤ count_by (λ (t : Step). nat_le t.level n) steps

-- values and steps agree, and every level has its decision
pub record IsTrail (s : TrailState) : Type 0 where
  pub coherent : IsCoherent s.values s.steps
  pub top : (k : ℕ) (t : Step) → slice_get s.steps k ≡ Some t → t.level ≤ s.level
  pub dense : IsDense s.steps s.level
  pub decisions : HasDecisions s.steps s.level

-- the trail of no variables
abbrev pub empty_trail : TrailState
empty_trail = record { values = []; steps = []; level = 0 }

-- the trail with unassigned variables added, so that there are at least n
abbrev pub grown : ℕ → TrailState → TrailState
grown n s = record { values = s.values ++ replicate (n - length s.values) None; steps = s.steps; level = s.level }

-- the trail after a literal was made true
abbrev pub with_step : TrailState → Step → TrailState
with_step s t = record {
  values = slice_set s.values t.lit.var.0 (Some t.lit.positive);
  steps = s.steps ++ t ∷ [];
  level = t.level;
}

-- the trail with every variable unassigned
abbrev pub cleared : TrailState → TrailState
cleared s = record { values = replicate (length s.values) None; steps = []; level = 0 }

-- a literal without a reason opens a level
abbrev pub level_after : ℕ → Option ℕ → ℕ
level_after level None = level + 1
level_after level (Some id) = level

-- the new trail is what the old one had up to the level
pub record CutsAt (level : ℕ) (old new : TrailState) : Type 0 where
  pub level_is : new.level ≡ level
  pub size : length new.values ≡ length old.values
  pub kept : new.steps ≡ take (length new.steps) old.steps
  pub below : (k : ℕ) (t : Step) → slice_get new.steps k ≡ Some t → t.level ≤ level
  pub above : (k : ℕ) (t : Step) → length new.steps ≤ k → slice_get old.steps k ≡ Some t → level < t.level
