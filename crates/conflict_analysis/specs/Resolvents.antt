-- Resolution along the trail, by places.
use Rattle.std.specs.Prelude.{◌≡◌, ℕ, ◌<◌, ◌≤◌, Some, List, [], ◌∷◌, ◌++◌, slice_get, Contains, ◌⊎◌, IsSome}
use Rattle.lit_core.specs.declared.literals.Lit.{Lit}
use Rattle.lit_core.specs.Literals.{negated}
use Rattle.clause_store.specs.declared.trails.Step.{Step}
use Rattle.clause_store.specs.StoreState.{StoreState, IsHeld, IsMadeBefore}
use Rattle.conflict_analysis.specs.declared.resolvent.Resolvent.{Resolvent}

-- the step at this place made the literal true
abbrev pub IsMadeAt : List Step → ℕ → Lit → Type 0
IsMadeAt steps k l = (t : Step) × (slice_get steps k ≡ Some t) × (t.lit ≡ l)

-- the place is marked
abbrev pub IsMarked : Resolvent → ℕ → Type 0
IsMarked r k = Contains r.upper k ⊎ Contains r.lower k

-- a step from the floor up, which did not fix its literal
abbrev pub IsUpper : List Step → ℕ → ℕ → Type 0
IsUpper steps floor k = (t : Step) × (slice_get steps k ≡ Some t) × (floor ≤ t.level) × (t.level ≡ 0 → IsSome t.reason)

-- a step below the floor
abbrev pub IsLower : List Step → ℕ → ℕ → Type 0
IsLower steps floor k = (t : Step) × (slice_get steps k ≡ Some t) × (t.level < floor)

-- the step at this place made one of these literals false
abbrev pub IsOfOne : List Step → (Lit → Type 0) → ℕ → Type 0
IsOfOne steps has k = (m : Lit) × has m × IsMadeAt steps k (negated m)

-- nothing is marked yet
pub record IsNew (floor top : ℕ) (r : Resolvent) : Type 0 where
  pub floor_is : r.floor ≡ floor
  pub top_is : r.top ≡ top
  pub upper : r.upper ≡ []
  pub lower : r.lower ≡ []
  pub hints : r.hints.items ≡ []

-- no place is left to be resolved
abbrev pub TakesNone : Resolvent → Resolvent → Type 0
TakesNone old new = (old.upper ≡ []) × (new ≡ old)

-- the last place was taken off
pub record TakesLast (old : Resolvent) (place : ℕ) (new : Resolvent) : Type 0 where
  pub upper : old.upper ≡ new.upper ++ place ∷ []
  pub below : (k : ℕ) → Contains new.upper k → k < place
  pub top : new.top ≡ place
  pub floor : new.floor ≡ old.floor
  pub lower : new.lower ≡ old.lower
  pub hints : new.hints.items ≡ old.hints.items

-- the places below the top that made these literals false were marked, and no others
pub record Gathers (steps : List Step) (old : Resolvent) (has : Lit → Type 0) (new : Resolvent) : Type 0 where
  pub floor : new.floor ≡ old.floor
  pub top : new.top ≡ old.top
  pub marked : (m : Lit) → has m → (k : ℕ) → k < old.top → IsMadeAt steps k (negated m) → IsMarked new k
  pub kept_upper : (k : ℕ) → Contains old.upper k → Contains new.upper k
  pub kept_lower : (k : ℕ) → Contains old.lower k → Contains new.lower k
  pub from_upper : (k : ℕ) → Contains new.upper k → Contains old.upper k
      ⊎ ((k < old.top) × IsUpper steps old.floor k × IsOfOne steps has k)
  pub from_lower : (k : ℕ) → Contains new.lower k → Contains old.lower k
      ⊎ (IsLower steps old.floor k × IsOfOne steps has k)

-- a held clause whose literals were made false before the place, but for the one that the step there made true
abbrev pub IsOfStep : StoreState → ℕ → ℕ → Type 0
IsOfStep s place id = (c : List Lit) × IsHeld s id c × ((m : Lit) → Contains c m → IsMadeBefore s.trail.steps place
    (negated m) ⊎ IsMadeAt s.trail.steps place m)

-- the clause was resolved: its false literals are marked, and it is a hint
pub record Absorbs (s : StoreState) (old : Resolvent) (id : ℕ) (new : Resolvent) : Type 0 where
  pub clause : List Lit
  pub held : IsHeld s id clause
  pub gathers : Gathers s.trail.steps old (Contains clause) new
  pub hints : new.hints.items ≡ old.hints.items ++ id ∷ []
