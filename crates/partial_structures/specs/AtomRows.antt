-- What the rows say of an atom.
use Rattle.std.specs.Prelude.{ℕ, List, ◌∷◌, Option, None, Some, Bool, reverse, if◌then◌else◌}
use Rattle.kb_logic.specs.declared.elements.Elem.{Elem}
use Rattle.row_tries.specs.Rows.{Marks, label_of, mark_of, same_optional_label}
use Rattle.row_tries.specs.declared.rows.Edge.{Edge}
use Rattle.row_tries.specs.declared.rows.Mark.{Mark}
use Rattle.row_tries.specs.declared.rows.Label.{Label}
use Rattle.row_tries.specs.declared.truths.Truth.{Truth}
use Rattle.row_tries.specs.declared.truths.Truth.TheVariants.{Yes, No, Unknown}

-- the elements of an atom's row, the last one first
abbrev pub row_of : List Elem → Option Elem → List Elem
row_of args None = reverse args
row_of args (Some x) = x ∷ reverse args

-- the rows say that an atom is true: a predicate's row, or a function's value at its arguments
abbrev pub MadeTrue : List (List ℕ) → List (Edge × Mark) → List (Edge × Mark) → ℕ → List Elem → Option Elem → Type 0
MadeTrue ws old new s args None = Marks ws old new s (reverse args) (record (mark_of ws old s (reverse args))
    { known = Yes })
MadeTrue ws old new s args (Some x) = Marks ws old new s (reverse args) (record (mark_of ws old s (reverse args))
    { value = label_of ws x })

-- the rows say that an atom is false
abbrev pub MadeFalse : List (List ℕ) → List (Edge × Mark) → List (Edge × Mark) → ℕ → List Elem → Option Elem → Type 0
MadeFalse ws old new s args v = Marks ws old new s (row_of args v) (record (mark_of ws old s (row_of args v))
    { known = No })

-- where the rest is false, so is what is not known
abbrev pub settled : Bool → Truth → Truth
settled closed Yes = Yes
settled closed No = No
settled closed Unknown = if closed then No else Unknown

-- a function's row with a value may say that it is not the value
abbrev pub denied : Truth → Truth
denied Yes = Unknown
denied No = No
denied Unknown = Unknown

-- a function's value is known, or else the row with the value says it
abbrev pub value_status : Option Label → Option Label → Truth → Truth
value_status None l row = row
value_status (Some v) l row = if same_optional_label v l then Yes else No

-- what the rows say of an atom of symbol s
abbrev pub status_of : List (List ℕ) → List (Edge × Mark) → Bool → ℕ → List Elem → Option Elem → Truth
status_of ws es closed s args None = settled closed (mark_of ws es s (reverse args)).known
status_of ws es closed s args (Some x) =
    value_status (mark_of ws es s (reverse args)).value (label_of ws x)
    (settled closed (denied (mark_of ws es s (x ∷ reverse args)).known))
