-- What the tests of cells and tuples mean, said of elements and tuples one by one.
use Rattle.std.specs.Prelude.{ℕ, ◌≡◌, Bool, not, List, length}
use Rattle.std.specs.List.{list_any, list_all}
use Rattle.kb_logic.specs.declared.elements.Elem.{Elem}
use Rattle.kb_logic.specs.declared.vocabularies.TypeDecl.{TypeDecl}
use Rattle.kb_logic.specs.Structures.{IsDistinct, tuples_of}
use Rattle.stage_definitions.specs.Elements.{Cell, same_element, is_in, is_among, is_covered, do_share, members, listed}
use Rattle.stage_definitions.specs.Elements.{count_of}
use Rattle.stage_definitions.specs.DataEntries.{Said}
use Rattle.stage_definitions.specs.DataDomains.{domains_of}
use Rattle.stage_definitions.specs.DataFacts.{same_tuple, tuples_given, misses_a_tuple}

-- ---- elements

-- the listed elements are distinct
abbrev pub ListedAreDistinct : Type 0
ListedAreDistinct = (cells : List Cell) → IsDistinct (listed cells)

-- an element is among some cells exactly where it is listed
abbrev pub ListedAreAmong : Type 0
ListedAreAmong = (cells : List Cell) (x : Elem) → is_among cells x ≡ list_any (same_element x) (listed cells)

-- as many are counted as are listed
abbrev pub ListedAreCounted : Type 0
ListedAreCounted = (cells : List Cell) → count_of cells ≡ length (listed cells)

-- a cell is covered exactly where each of its elements is among the others
abbrev pub CoveredIsEach : Type 0
CoveredIsEach = (cells : List Cell) (c : Cell) → is_covered cells c ≡ list_all (is_among cells) (members c)

-- two cells share exactly where an element of one is in the other
abbrev pub SharedIsSome : Type 0
SharedIsSome = (c d : Cell) → do_share c d ≡ list_any (λ x. is_in x d) (members c)

-- ---- tuples

-- no row of the entry has these arguments
abbrev pub has_no_row : List TypeDecl → List Said → List ℕ → Said → List Elem → Bool
has_no_row types es args e t = not (list_any (same_tuple t) (tuples_given types es args e))

-- fewer tuples are given than there are exactly where some tuple over the domains has no row
abbrev pub MissedIsSome : Type 0
MissedIsSome =
    (types : List TypeDecl) (es : List Said) (args : List ℕ) (e : Said)
    → misses_a_tuple types es args e ≡ list_any (has_no_row types es args e) (tuples_of (domains_of types es) args)
