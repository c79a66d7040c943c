-- What the fields of a clause database keep.
use Rattle.std.specs.Prelude.{◌≡◌, ℕ, zero, suc, ◌<◌, ◌≤◌, ◌+◌, ◌^◌, Option, Some, None, List, [], length, map, take}
use Rattle.std.specs.Prelude.{drop, slice_get, vec_len, vec_capacity}
use Rattle.lit_core.specs.declared.literals.Lit.{Lit}
use Rattle.clause_base.specs.ClauseDbState.{ClauseDbState}
use Rattle.clause_base.specs.declared.clause_db.Entry.{Entry}
use Rattle.clause_base.specs.declared.clause_db.ClauseDb.TheInside.{Inside}

-- one more than the length for which there is room, or 0
abbrev pub spare_of : Option ℕ → ℕ
spare_of None = 0
spare_of (Some n) = n + 1

-- the literals from this place of the arena on, one fewer than the size; none for size 0
abbrev pub part_of : List Lit → ℕ → ℕ → Option (List Lit)
part_of lits start zero = None
part_of lits start (suc n) = Some (take n (drop start lits))

-- the clause of an entry
abbrev pub clause_of : List Lit → Entry → Option (List Lit)
clause_of lits e = part_of lits e.start e.size

abbrev pub state_of : Inside → ClauseDbState
state_of a = record { clauses = map (clause_of a.lits.items) a.entries.items; spare = spare_of a.spare }

-- there is room for a clause of this length
pub record HasRoom (a : Inside) (n : ℕ) : Type 0 where
  pub buffer : n ≤ a.buffer.capacity
  pub entry : vec_len a.entries < vec_capacity a.entries
  pub arena : vec_len a.lits + n ≤ vec_capacity a.lits
  pub small : vec_len a.lits + n + 1 < 2 ^ 32

-- the clause of an entry, if it was not removed, ends at this place of the arena or before
abbrev pub EndsBy : Entry → ℕ → Type 0
EndsBy e end = (n : ℕ) → e.size ≡ suc n → e.start + n ≤ end

-- the entries from this number on are of clauses that were removed
abbrev pub AreRemoved : List Entry → ℕ → Type 0
AreRemoved entries live = (id : ℕ) (e : Entry) → live ≤ id → slice_get entries id ≡ Some e → e.size ≡ 0

-- where the clause of this entry was removed, so many entries just before it as its skip `first` says are of removed
-- clauses too
abbrev pub IsSkip : List Entry → ℕ → Entry → Type 0
IsSkip entries id e = (i : ℕ) (f : Entry) → e.size ≡ 0 → i < id → id ≤ i + e.first → slice_get entries i ≡ Some f
    → f.size ≡ 0

-- the skip of every removed clause is right
abbrev pub HaveSkips : List Entry → Type 0
HaveSkips entries = (id : ℕ) (e : Entry) → slice_get entries id ≡ Some e → IsSkip entries id e

-- each clause ends before any later one begins
abbrev pub IsOrdered : List Entry → Type 0
IsOrdered entries = (i j : ℕ) (e f : Entry) → i < j → slice_get entries i ≡ Some e → slice_get entries j ≡ Some f
    → EndsBy e f.start

-- the last of so many entries ends at this place of the arena
pub record EndsAt (entries : List Entry) (live end : ℕ) : Type 0 where
  pub begins : (id : ℕ) (e : Entry) → id + 1 ≡ live → slice_get entries id ≡ Some e → e.start ≤ end
  pub ends : (id : ℕ) (e : Entry) → id + 1 ≡ live → slice_get entries id ≡ Some e → EndsBy e end

pub record IsKept (a : Inside) : Type 0 where
  pub empty : a.buffer.items ≡ []
  -- each clause stands inside the arena, and ends before any later one begins
  pub within : (id : ℕ) (e : Entry) → slice_get a.entries.items id ≡ Some e → EndsBy e (length a.lits.items)
  pub ordered : IsOrdered a.entries.items
  pub live : a.live ≤ length a.entries.items
  pub removed : AreRemoved a.entries.items a.live
  -- a walk over removed clauses may jump as far as they say
  pub skips : HaveSkips a.entries.items
  pub room : (n : ℕ) → a.spare ≡ Some n → HasRoom a n
