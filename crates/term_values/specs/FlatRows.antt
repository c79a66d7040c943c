-- Rows whose guards and values lie one after another in two arrays.
use Rattle.std.specs.Prelude.{◌≡◌, ◌≤◌, ℕ, zero, suc, List, [], ◌∷◌, map, length, slice_range}
use Rattle.kb_logic.specs.Denotations.{Denotation, undefined}
use Rattle.lit_core.specs.declared.literals.Lit.{Lit}
use Rattle.term_values.specs.declared.rows.RowEnd.{RowEnd}
use Rattle.term_values.specs.declared.rows.RowValue.{RowValue}
use Rattle.term_values.specs.RowValues.{row_value}

-- the start of the first row
abbrev pub origin : RowEnd
origin = record { guards = 0; values = 0 }

-- where the row with this index starts, which is where the one before it ends
abbrev pub row_start : RowEnd → List RowEnd → ℕ → RowEnd
row_start s [] k = s
row_start s (e ∷ es) zero = s
row_start s (e ∷ es) (suc k) = row_start e es k

-- the guards and the values between two ends
abbrev pub row_between : List Lit → List RowValue → RowEnd → RowEnd → List Lit × List Denotation
row_between gs vs s e = (slice_range gs s.guards e.guards, map row_value (slice_range vs s.values e.values))

-- the rows with these ends, the first of which starts at s
abbrev pub rows_between : List Lit → List RowValue → RowEnd → List RowEnd → List (List Lit × List Denotation)
rows_between gs vs s [] = []
rows_between gs vs s (e ∷ es) = row_between gs vs s e ∷ rows_between gs vs e es

-- the ends rise from s on, and none is past the ends of the arrays
abbrev pub AreEnds : RowEnd → List RowEnd → ℕ → ℕ → Type 0
AreEnds s [] m n = (s.guards ≤ m) × (s.values ≤ n)
AreEnds s (e ∷ es) m n = (s.guards ≤ e.guards) × (s.values ≤ e.values) × AreEnds e es m n

-- the first value of a list
abbrev pub first_value : List Denotation → Denotation
first_value [] = undefined
first_value (v ∷ vs) = v

-- rows with one value each
abbrev pub single_rows : List (List Lit × List Denotation) → List (List Lit × Denotation)
single_rows rs = map (λ r. (r.0, first_value r.1)) rs

abbrev pub HasOneValue : List Lit × List Denotation → Type 0
HasOneValue r = length r.1 ≡ 1
