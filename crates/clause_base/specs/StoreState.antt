-- A store of clauses with a trail, what holds of every one, and how it changes.
use Rattle.std.specs.Prelude.{◌≡◌, ℕ, ◌<◌, ◌≤◌, false, Option, Some, None, List, [], ◌∷◌, ◌++◌, length, take, slice_get}
use Rattle.std.specs.Prelude.{slice_set, All, Contains, ◌⊎◌, IsSome}
use Rattle.lit_core.specs.declared.literals.Lit.{Lit}
use Rattle.lit_core.specs.Literals.{value_in, negated, HasEachOnce}
use Rattle.lit_core.specs.Truth.{IsFalsified, IsSettled}
use Rattle.clause_base.specs.declared.trail.Step.{Step}
use Rattle.clause_base.specs.TrailState.{TrailState}
use Rattle.clause_base.specs.TrailLaws.{IsTrail, IsFixed, empty_trail, grown}

pub record StoreState : Type 0 where
  -- the clauses by their numbers, None where one was removed
  pub clauses : List (Option (List Lit))
  pub trail : TrailState
  -- a push of fewer literals than this cannot fail
  pub spare : ℕ

-- the clause with this number is held, and has these literals
abbrev pub IsHeld : StoreState → ℕ → List Lit → Type 0
IsHeld s id c = slice_get s.clauses id ≡ Some (Some c)

-- a step before this place made the literal true
abbrev pub IsMadeBefore : List Step → ℕ → Lit → Type 0
IsMadeBefore steps k l = (j : ℕ) × (u : Step) × (j < k) × (slice_get steps j ≡ Some u) × (u.lit ≡ l)

-- the clause has the literal, and its other literals were false before the step at this place
pub record IsReasonAt (c : List Lit) (steps : List Step) (k : ℕ) (l : Lit) : Type 0 where
  pub member : Contains c l
  pub others : All (λ m. (m ≡ l) ⊎ IsMadeBefore steps k (negated m)) c

-- what holds of every store
pub record IsStore (s : StoreState) : Type 0 where
  pub trail : IsTrail s.trail
  pub in_range : (id : ℕ) (c : List Lit) → IsHeld s id c → All (λ l. l.var.0 < length s.trail.values) c
  pub once : (id : ℕ) (c : List Lit) → IsHeld s id c → HasEachOnce c
  pub reasons : (k : ℕ) (t : Step) (id : ℕ) → slice_get s.trail.steps k ≡ Some t → t.reason ≡ Some id
      → (c : List Lit) × IsHeld s id c × IsReasonAt c s.trail.steps k t.lit
  -- no held clause has the negation of a fixed literal
  pub unopposed : (l : Lit) → IsFixed s.trail l → (id : ℕ) (c : List Lit) → IsHeld s id c → Contains c (negated l) → ⊥

-- the clause has the literal, and its other literals are false
pub record Implies (s : StoreState) (id : ℕ) (l : Lit) : Type 0 where
  pub clause : List Lit
  pub held : IsHeld s id clause
  pub member : Contains clause l
  pub others : All (λ m. (m ≡ l) ⊎ (value_in s.trail.values m ≡ Some false)) clause

-- no held clause is false, and none is unit
abbrev pub IsQuiet : StoreState → Type 0
IsQuiet s = (id : ℕ) (c : List Lit) → IsHeld s id c → IsSettled s.trail.values c

-- this clause is held and false
abbrev pub IsConflict : StoreState → ℕ → Type 0
IsConflict s id = (c : List Lit) × IsHeld s id c × IsFalsified s.trail.values c

-- these are the literals, each once, in some order
pub record IsEachOnceOf (lits c : List Lit) : Type 0 where
  pub once : HasEachOnce c
  pub from : (l : Lit) → Contains c l → Contains lits l
  pub all : (l : Lit) → Contains lits l → Contains c l

-- from old to new, literals with reasons were added to the trail, at its level
pub record Propagates (old new : StoreState) : Type 0 where
  pub clauses : new.clauses ≡ old.clauses
  pub spare : new.spare ≡ old.spare
  pub level : new.trail.level ≡ old.trail.level
  pub size : length new.trail.values ≡ length old.trail.values
  pub kept : old.trail.steps ≡ take (length old.trail.steps) new.trail.steps
  pub reasoned : (k : ℕ) (t : Step) → length old.trail.steps ≤ k → slice_get new.trail.steps k ≡ Some t
      → IsSome t.reason × (t.level ≡ old.trail.level)

-- the store of no variables and no clauses
abbrev pub empty_store : StoreState
empty_store = record { clauses = []; trail = empty_trail; spare = 0 }

-- the store with another trail
abbrev pub with_trail : StoreState → TrailState → StoreState
with_trail s t = record { clauses = s.clauses; trail = t; spare = s.spare }

-- the store with unassigned variables added, so that there are at least n
abbrev pub with_variables : ℕ → StoreState → StoreState
with_variables n s = with_trail s (grown n s.trail)

-- the store with room for one more clause
abbrev pub with_spare : StoreState → ℕ → StoreState
with_spare s n = record { clauses = s.clauses; trail = s.trail; spare = n }

-- the store with one more clause, which takes the room that was made
abbrev pub with_clause : StoreState → List Lit → StoreState
with_clause s c = record { clauses = s.clauses ++ Some c ∷ []; trail = s.trail; spare = 0 }

-- the store without this clause
abbrev pub without_clause : StoreState → ℕ → StoreState
without_clause s id = record { clauses = slice_set s.clauses id None; trail = s.trail; spare = s.spare }
