-- The elements of types, as a structure gives them.
use Rattle.std.specs.Prelude.{ℕ, ◌==◌, Bool, true, false, not, ◌&&◌, ◌||◌, nat_lt, is_none, pos, negsuc, List, []}
use Rattle.std.specs.Prelude.{length, map, filter, filter_map, flat_map, Option, None, Some, unwrap_or, slice_get}
use Rattle.std.specs.Prelude.{if◌then◌else◌}
use Rattle.std.specs.List.{list_any, enumerate_from}
use Rattle.kb_logic.specs.declared.elements.Elem.{Elem}
use Rattle.kb_logic.specs.declared.elements.Elem.TheVariants.{Named}
use Rattle.kb_logic.specs.declared.vocabularies.TypeDecl.{TypeDecl}
use Rattle.kb_logic.specs.declared.vocabularies.Parent.{Parent}
use Rattle.kb_logic.specs.declared.vocabularies.Parent.TheVariants as parent
use Rattle.stage_definitions.specs.Below.{type_above, type_parents}
use Rattle.stage_definitions.specs.Kinship.{top_of, is_number_type}
use Rattle.stage_definitions.specs.Elements.{Cell, one, is_numeric, is_not_negative, is_within, listed}
use Rattle.stage_definitions.specs.DataEntries.{Subject, nothing_named, an_element, a_type, a_symbol, Said, Spot}
use Rattle.stage_definitions.specs.DataEntries.{spots_of}

-- ---- types that have a list

-- the word names the type with this number
abbrev pub names_type : ℕ → Subject → Bool
names_type t nothing_named = false
names_type t an_element = false
names_type t (a_type u d) = u == t
names_type t (a_symbol s d) = false

-- the entry is a list of this type; a value of another form is no list
abbrev pub is_list_of : ℕ → Said → Bool
is_list_of t e = names_type t e.subject && e.fits

-- the type has a list
abbrev pub is_listed : List Said → ℕ → Bool
is_listed es t = list_any (is_list_of t) es

-- what stands in an entry, in the order of the text
abbrev pub cells_given : Said → List Cell
cells_given e = filter_map (λ s. s.cell) (spots_of e)

-- what the type's own lists have
abbrev pub listed_cells : List Said → ℕ → List Cell
listed_cells es t = flat_map cells_given (filter (is_list_of t) es)

-- ---- types whose elements are those that occur

-- the type under which a type is declared, where that is a type of the vocabulary
abbrev pub parent_of_type : List TypeDecl → ℕ → Option ℕ
parent_of_type types t = unwrap_or (slice_get (type_parents types) t) None

-- it is the type with this number
abbrev pub is_this : ℕ → Option ℕ → Bool
is_this t None = false
is_this t (Some u) = u == t

-- what is written here occurs at a position of the type: the list of a type is a table of its parent
abbrev pub occurs_at : List TypeDecl → ℕ → Spot → Bool
occurs_at types t s = is_this t (if s.in_list then parent_of_type types s.ty else Some s.ty)

-- what occurs in the structure at positions of the type, in the order of the text
abbrev pub occurring_cells : List TypeDecl → List Said → ℕ → List Cell
occurring_cells types es t = filter_map (λ s. s.cell) (filter (occurs_at types t) (flat_map spots_of es))

-- ---- the elements of a type

-- the names of its elements are declared with the type
abbrev pub is_constructed : TypeDecl → Bool
is_constructed d = nat_lt 0 (length d.made)

-- a constructed type's elements
abbrev pub made_cells : TypeDecl → List Cell
made_cells d = map (λ n. one (Named n)) d.made

-- a type that is neither constructed nor listed, and stands under no other type, has the elements that occur
abbrev pub has_what_occurs : List Said → ℕ → TypeDecl → Bool
has_what_occurs es t d = not (is_constructed d) && (not (is_listed es t) && is_none (type_above d.parent))

-- the elements of the type with this number, which is declared so
abbrev pub cells_by : List TypeDecl → List Said → ℕ → TypeDecl → List Cell
cells_by types es t d =
    if is_constructed d then made_cells d else (if is_listed es t then listed_cells es t else
    (if has_what_occurs es t d then occurring_cells types es t else []))

-- the elements of a type, if there is one
abbrev pub cells_if : List TypeDecl → List Said → ℕ → Option TypeDecl → List Cell
cells_if types es t None = []
cells_if types es t (Some d) = cells_by types es t d

-- the elements of a type, as they are written: the names of a constructed type, the type's list, or what occurs; a type
-- under another one that has no list has none
abbrev pub cells_of : List TypeDecl → List Said → ℕ → List Cell
cells_of types es t = cells_if types es t (slice_get types t)

-- the domains, in the order of the types
abbrev pub domains_of : List TypeDecl → List Said → List (List Elem)
domains_of types es = map (λ t. listed (cells_by types es t.0 t.1)) (enumerate_from 0 types)

-- ---- which elements a type may have

-- the parent is `nat`
abbrev pub is_nat : Parent → Bool
is_nat parent.Root = false
is_nat parent.Int = false
is_nat parent.Nat = true
is_nat (parent.Of t) = false

-- the type is declared under `nat`
abbrev pub is_under_nat : Option TypeDecl → Bool
is_under_nat None = false
is_under_nat (Some d) = is_nat d.parent

-- the type's chain of `isa` ends at `nat`
abbrev pub is_natural_type : List TypeDecl → ℕ → Bool
is_natural_type types t = is_under_nat (slice_get types (top_of types t))

-- a number type has integers alone, and one under `nat` none below 0
abbrev pub is_of_kind : List TypeDecl → ℕ → Cell → Bool
is_of_kind types t c = (not (is_number_type types t) || is_numeric c)
    && (not (is_natural_type types t) || is_not_negative c)

-- the integers of domains lie from -1,000,000 to 1,000,000
abbrev pub is_in_range : Cell → Bool
is_in_range (one (Named n)) = true
is_in_range c = is_within (negsuc 999999) (pos 1000000) c
