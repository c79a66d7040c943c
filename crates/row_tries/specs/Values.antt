-- The labels that lead to values.
use Rattle.std.specs.Prelude.{◌≡◌, ℕ, List, Option, None, Some, option_map}
use Rattle.std.specs.Str.{bytes_eq}
use Rattle.kb_logic.specs.Denotations.{Denotation, named, number, minus_infinity, plus_infinity, undefined}
use Rattle.row_tries.specs.Words.{place}
use Rattle.row_tries.specs.declared.rows.Label.{Label}
use Rattle.row_tries.specs.declared.rows.Label.TheVariants.{Word, Number}
use Rattle.kb_logic.specs.declared.values.Value.{Value}
pub use Rattle.kb_logic.specs.Values.{value_view}

-- what stands for a value that is an element
abbrev pub value_label : List (List ℕ) → Denotation → Option Label
value_label ws (named q) = option_map Word (place (bytes_eq q) ws)
value_label ws (number z) = Some (Number z)
value_label ws minus_infinity = None
value_label ws plus_infinity = None
value_label ws undefined = None

-- the value for which the label stands, if it stands for one
abbrev pub IsValueOf : List (List ℕ) → Label → Option Value → Type 0
IsValueOf ws l None = (v : Denotation) → value_label ws v ≡ Some l → ⊥
IsValueOf ws l (Some v) = value_label ws (value_view v) ≡ Some l
