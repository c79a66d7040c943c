-- What the fields of lists of short clauses stand for, and how they change.
use Rattle.std.specs.Prelude.{◌≡◌, ℕ, ◌≤◌, ◌⊎◌, Some, List, [], length, map, Contains, slice_get, Option}
use Rattle.std.specs.Global.{Vec}
use Rattle.lit_core.specs.declared.literals.Lit.{Lit}
use Rattle.lit_core.specs.Packing.{number_of}
use Rattle.clause_base.specs.ShortState.{ShortState, IsPacked, IsRest, AreHeldBelow}
use Rattle.clause_base.specs.declared.occurrences.Occurrence.{Occurrence}
use Rattle.clause_base.specs.declared.short_clauses.ShortClauses.TheInside.{Inside}

abbrev pub lists_of : Vec (Vec Occurrence) → List (List Occurrence)
lists_of v = map (λ (os : Vec Occurrence). os.items) v.items

abbrev pub state_of : Inside → ShortState
state_of a = record { lists = lists_of a.lists; packed = a.packed }

-- empty lists were added
pub record IsLonger (old new : List (List Occurrence)) : Type 0 where
  pub len : length old ≤ length new
  pub kept : (j : ℕ) (os : List Occurrence) → slice_get old j ≡ Some os → slice_get new j ≡ Some os
  pub added : (j : ℕ) (os : List Occurrence) → slice_get new j ≡ Some os → (slice_get old j ≡ Some os) ⊎ (os ≡ [])

-- nothing left the lists, and what was added are occurrences of the clause with this number
pub record Grows (old new : List (List Occurrence)) (id : ℕ) (c : List Lit) : Type 0 where
  pub len : length new ≡ length old
  pub kept : (j : ℕ) (os : List Occurrence) (o : Occurrence) → slice_get old j ≡ Some os → Contains os o
      → (ps : List Occurrence) × (slice_get new j ≡ Some ps) × Contains ps o
  pub added : (j : ℕ) (ps : List Occurrence) (o : Occurrence) → slice_get new j ≡ Some ps → Contains ps o
      → ((os : List Occurrence) × (slice_get old j ≡ Some os) × Contains os o)
      ⊎ ((l : Lit) × Contains c l × (j ≡ number_of l) × (o.id ≡ id) × IsRest c l o)

-- what is packed stays packed
abbrev pub StaysPacked : List (Option (List Lit)) → ShortState → ShortState → Type 0
StaysPacked clauses old new = (vars : ℕ) → IsPacked clauses vars old → AreHeldBelow vars clauses
    → IsPacked clauses vars new
