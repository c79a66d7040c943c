-- Which types are number types, and which belong together.
use Rattle.std.specs.Prelude.{ℕ, ◌==◌, Bool, true, false, ◌&&◌, ◌||◌, List, length, Option, None, Some, zero, suc}
use Rattle.std.specs.Prelude.{slice_get}
use Rattle.kb_logic.specs.declared.vocabularies.TypeDecl.{TypeDecl}
use Rattle.kb_logic.specs.declared.vocabularies.Parent.{Parent}
use Rattle.kb_logic.specs.declared.vocabularies.Parent.TheVariants as parent
use Rattle.stage_definitions.specs.Below.{type_parents, is_below}

-- the type t is the type u, or reaches it by `isa`
abbrev pub is_under : List TypeDecl → ℕ → ℕ → Bool
is_under types t u = is_below (type_parents types) t u

-- further up, unless the chain ends at t
abbrev pub climbed_on : Option (Option ℕ) → ℕ → (ℕ → ℕ) → ℕ
climbed_on None t on = t
climbed_on (Some None) t on = t
climbed_on (Some (Some p)) t on = on p

-- where at most so many steps up from the type t lead
abbrev pub climbed : ℕ → List (Option ℕ) → ℕ → ℕ
climbed zero parents t = t
climbed (suc n) parents t = climbed_on (slice_get parents t) t (climbed n parents)

-- the type at the end of t's chain
abbrev pub top_of : List TypeDecl → ℕ → ℕ
top_of types t = climbed (length types) (type_parents types) t

abbrev pub is_number_parent : Parent → Bool
is_number_parent parent.Root = false
is_number_parent parent.Int = true
is_number_parent parent.Nat = true
is_number_parent (parent.Of t) = false

abbrev pub is_under_a_number : Option TypeDecl → Bool
is_under_a_number None = false
is_under_a_number (Some d) = is_number_parent d.parent

-- the chain of t ends at `int` or `nat`
abbrev pub is_number_type : List TypeDecl → ℕ → Bool
is_number_type types t = is_under_a_number (slice_get types (top_of types t))

-- both are number types, or their chains end in the same type
abbrev pub are_akin : List TypeDecl → ℕ → ℕ → Bool
are_akin types t u = (is_number_type types t && is_number_type types u) || (top_of types t == top_of types u)
