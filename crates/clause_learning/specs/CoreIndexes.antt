-- Kept cores, found by their last literals.
use Rattle.std.specs.Prelude.{◌≡◌, ℕ, ◌+◌, ◌-◌, ◌<◌, ◌≤◌, Bool, true, false, Option, Some, List, [], length, slice_get}
use Rattle.std.specs.Prelude.{slice_index_or, Contains}
use Rattle.lit_core.specs.declared.literals.Lit.{Lit}
use Rattle.clause_learning.specs.declared.core_index.CoreIndex.{CoreIndex}

-- the last literal of a core, if it has one
abbrev pub last_of : List Lit → Option Lit
last_of c = slice_get c (length c - 1)

-- for each variable the newest core that ends with its literal of this sign, counted from 1, or 0
abbrev pub newest_in : CoreIndex → Bool → List ℕ
newest_in k true = k.positive.items
newest_in k false = k.negative.items

-- the newest core that ends with the literal, counted from 1, or 0
abbrev pub newest_of : CoreIndex → Lit → ℕ
newest_of k l = slice_index_or (newest_in k l.positive) l.var.0 0

-- the core at this place ends with the literal
abbrev pub EndsWith : CoreIndex → ℕ → Lit → Type 0
EndsWith k j l = (c : List Lit) × (slice_get k.cores.items j ≡ Some c) × (last_of c ≡ Some l)

-- from the newest core that ends with a literal all older ones are reached, and no others
pub record IsIndexed (k : CoreIndex) : Type 0 where
  pub newest : (l : Lit) (j : ℕ) → EndsWith k j l → j < newest_of k l
  pub ends : (l : Lit) (j : ℕ) → newest_of k l ≡ j + 1 → EndsWith k j l
  pub older : (l : Lit) (i j : ℕ) → EndsWith k i l → EndsWith k j l → j < i → j < slice_index_or k.older.items i 0
  pub links : (l : Lit) (i j : ℕ) → EndsWith k i l → slice_index_or k.older.items i 0 ≡ j + 1 → EndsWith k j l
  pub falls : (l : Lit) (i : ℕ) → EndsWith k i l → slice_index_or k.older.items i 0 ≤ i
  pub sized : length k.older.items ≡ length k.cores.items
  -- a core without literals is noted
  pub noted : Contains k.cores.items [] → k.refuted ≡ true
  pub refuted : k.refuted ≡ true → Contains k.cores.items []
