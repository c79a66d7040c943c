-- What the rows of a structure's tables take away from a number of true atoms.
use Rattle.std.specs.Prelude.{ℕ, ◌-◌, List, [], ◌∷◌, Bool, true, false, Option, None, Some}
use Rattle.std.specs.Option.{option_and_then}
use Rattle.kb_logic.specs.declared.elements.Elem.{Elem}
use Rattle.kb_logic.specs.declared.structures.Table.{Table}
use Rattle.partial_structures.specs.AtomRows.{status_of}
use Rattle.partial_structures.specs.Flags.{is_closed}
use Rattle.row_tries.specs.declared.rows.Edge.{Edge}
use Rattle.row_tries.specs.declared.rows.Mark.{Mark}
use Rattle.row_tries.specs.declared.truths.Truth.{Truth}
use Rattle.row_tries.specs.declared.truths.Truth.TheVariants.{Yes, No, Unknown}

abbrev pub before_last : Elem → Option (List Elem × Elem) → Option (List Elem × Elem)
before_last x None = Some ([], x)
before_last x (Some p) = Some (x ∷ p.0, p.1)

-- the arguments and the value in a function's row
abbrev pub parts_of : List Elem → Option (List Elem × Elem)
parts_of [] = None
parts_of (x ∷ row) = before_last x (parts_of row)

-- what is known of the atom of a function's row
abbrev pub parts_status : List (List ℕ) → List (Edge × Mark) → Bool → ℕ → Option (List Elem × Elem) → Truth
parts_status ws es closed s None = Unknown
parts_status ws es closed s (Some p) = status_of ws es closed s p.0 (Some p.1)

-- what is known of the atom of a row, which is a function's or a predicate's
abbrev pub row_status : List (List ℕ) → List (Edge × Mark) → Bool → Bool → ℕ → List Elem → Truth
row_status ws es closed true s row = parts_status ws es closed s (parts_of row)
row_status ws es closed false s row = status_of ws es closed s row None

-- one true atom fewer, and none at all where the atom is false
abbrev pub taken : Truth → ℕ → Option ℕ
taken Yes n = Some (n - 1)
taken No n = None
taken Unknown n = Some n

-- the same for each item of a list
abbrev pub left_after : {X : Type 0} → (X → Truth) → List X → ℕ → Option ℕ
left_after P [] n = Some n
left_after P (x ∷ xs) n = option_and_then (left_after P xs) (taken (P x) n)

-- the same for each row of each table
abbrev pub tables_left : List (List ℕ) → List (Edge × Mark) → List Bool → Bool → List Table → ℕ → Option ℕ
tables_left ws es closed function [] n = Some n
tables_left ws es closed function (t ∷ ts) n =
    option_and_then (tables_left ws es closed function ts) (left_after
    (row_status ws es (is_closed closed t.symbol) function t.symbol) t.rows n)
