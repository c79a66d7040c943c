-- Short clauses in lists, one for each literal, and what the other literals of one say.
use Rattle.std.specs.Prelude.{◌≡◌, ◌≢◌, ℕ, ◌<◌, ◌≤◌, ◌⊎◌, Bool, true, false, Option, Some, None, List, length}
use Rattle.std.specs.Prelude.{All, Contains, slice_get}
use Rattle.lit_core.specs.declared.literals.Lit.{Lit}
use Rattle.lit_core.specs.Literals.{value_in}
use Rattle.lit_core.specs.Packing.{number_of}
use Rattle.clause_base.specs.declared.occurrences.Occurrence.{Occurrence}
use Rattle.clause_base.specs.declared.occurrences.Rest.{Rest}
use Rattle.clause_base.specs.declared.occurrences.Rest.TheVariants.{Open, Unit as OnlyOne, False as NoneTrue}

-- one list for each literal, by its number; the short clauses below the number `packed` are listed
pub record ShortState : Type 0 where
  pub lists : List (List Occurrence)
  pub packed : ℕ

-- the clause has two to four literals
abbrev pub IsShort : List Lit → Type 0
IsShort c = (2 ≤ length c) × (length c ≤ 4)

-- the literal is one of the others
abbrev pub IsOther : Occurrence → Lit → Type 0
IsOther o m = (m ≡ o.first) ⊎ (m ≡ o.second) ⊎ (m ≡ o.third)

-- the occurrence is the clause as this literal sees it
pub record IsRest (c : List Lit) (l : Lit) (o : Occurrence) : Type 0 where
  pub from : (m : Lit) → IsOther o m → Contains c m
  pub all : (m : Lit) → Contains c m → m ≢ l → IsOther o m

-- an occurrence of the clause with this number is in the list of the literal
abbrev pub IsListed : List (List Occurrence) → Lit → ℕ → Type 0
IsListed lists l id = (os : List Occurrence) × (o : Occurrence) × (slice_get lists (number_of l) ≡ Some os)
    × Contains os o × (o.id ≡ id)

-- the held short clauses below `packed` are in the lists of all their literals, and of held clauses nothing else is
pub record IsPacked (clauses : List (Option (List Lit))) (vars : ℕ) (s : ShortState) : Type 0 where
  pub within : s.packed ≤ length clauses
  pub complete : (id : ℕ) (c : List Lit) → id < s.packed → slice_get clauses id ≡ Some (Some c) → IsShort c → (l : Lit)
      → Contains c l → IsListed s.lists l id
  pub sound : (l : Lit) (os : List Occurrence) (o : Occurrence) → slice_get s.lists (number_of l) ≡ Some os
      → Contains os o → (c : List Lit) → slice_get clauses o.id ≡ Some (Some c) → IsShort c × IsRest c l o
  pub in_range : (j : ℕ) (os : List Occurrence) (o : Occurrence) → slice_get s.lists j ≡ Some os → Contains os o
      → (o.id < length clauses) × ((m : Lit) → IsOther o m → m.var.0 < vars)

-- the variables of held clauses are below this number
abbrev pub AreHeldBelow : ℕ → List (Option (List Lit)) → Type 0
AreHeldBelow vars clauses = (id : ℕ) (c : List Lit) → slice_get clauses id ≡ Some (Some c)
    → All (λ l. l.var.0 < vars) c

-- there is a list for each literal of held clauses
abbrev pub HaveLists : ℕ → List (Option (List Lit)) → Type 0
HaveLists count clauses = (id : ℕ) (c : List Lit) → slice_get clauses id ≡ Some (Some c)
    → All (λ l. number_of l < count) c

-- what the other literals say under these values: one is true or two are unassigned; all but this one are false, and it
-- is unassigned; all are false
abbrev pub RestIs : List (Option Bool) → Occurrence → Rest → Type 0
RestIs values o Open = ((m : Lit) × IsOther o m × (value_in values m ≡ Some true))
    ⊎ ((m : Lit) × (n : Lit) × IsOther o m × IsOther o n × (m ≢ n) × (value_in values m ≡ None)
    × (value_in values n ≡ None))
RestIs values o (OnlyOne m) = IsOther o m × (value_in values m ≡ None)
    × ((n : Lit) → IsOther o n → (n ≡ m) ⊎ (value_in values n ≡ Some false))
RestIs values o NoneTrue = (m : Lit) → IsOther o m → value_in values m ≡ Some false
