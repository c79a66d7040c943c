-- The entries with which a partial structure is written: what a structure block says, without places.
use Rattle.std.specs.Prelude.{ℕ, List, [], ◌∷◌, ◌++◌, Bool, true, false, ◌||◌, Option, Some, None, map, filter}
use Rattle.std.specs.Prelude.{flat_map, codes, if◌then◌else◌}
use Rattle.std.specs.List.{enumerate_from, list_all}
use Rattle.kb_logic.specs.declared.elements.Elem.{Elem}
use Rattle.kb_logic.specs.declared.vocabularies.TypeDecl.{TypeDecl}
use Rattle.kb_logic.specs.declared.vocabularies.Symbol.{Symbol}
use Rattle.kb_logic.specs.declared.vocabularies.Vocabulary.{Vocabulary}
use Rattle.kb_logic.specs.Models.{GroundAtom}
use Rattle.kb_logic.specs.Structures.{domain_at, tuples_of}
use Rattle.kb_logic.specs.KnownAtoms.{KnownAtoms}
use Rattle.partial_structures.specs.KnownAtoms.{value_at}
use Rattle.partial_structures.specs.Status.{is_yes, is_no}

-- a row of a table: arguments, and a value where the table is a function's
pub record PlainRow : Type 0 where
  pub args : List Elem
  pub value : Option Elem

-- `true` or `false`, an element, or a table
pub data PlainValue : Type 0 where
  truth : Bool → PlainValue
  element : Elem → PlainValue
  table : List PlainRow → PlainValue

-- a word, a mark and a value
pub record PlainEntry : Type 0 where
  pub word : List ℕ
  pub mark : Option (List ℕ)
  pub value : PlainValue

-- ---- types

-- a row with one element
abbrev pub alone : Elem → PlainRow
alone x = record { args = x ∷ []; value = None }

-- the elements of a type, unless their names are declared with it
abbrev pub list_of : List ℕ → List (List ℕ) → List Elem → List PlainEntry
list_of name [] domain = record { word = name; mark = None; value = table (map alone domain) } ∷ []
list_of name (n ∷ ns) domain = []

-- the entry of the type with this number, if it has one
abbrev pub type_entries : List (List Elem) → ℕ × TypeDecl → List PlainEntry
type_entries domains t = list_of t.1.name t.1.made (domain_at domains t.0)

-- ---- symbols

-- the atoms of a function with these arguments, one for each of these values
abbrev pub function_atoms : ℕ → List Elem → List Elem → List GroundAtom
function_atoms number args values = map (λ x. record { symbol = number; args = args; value = Some x }) values

-- the atom of a symbol with these arguments; of a function, its atoms there, one for each element of its value type
abbrev pub atoms_at : List (List Elem) → ℕ → Option ℕ → List Elem → List GroundAtom
atoms_at domains number None args = record { symbol = number; args = args; value = None } ∷ []
atoms_at domains number (Some ty) args = function_atoms number args (domain_at domains ty)

abbrev pub row_of : GroundAtom → PlainRow
row_of a = record { args = a.args; value = a.value }

-- whether it is certain that the atom is true, or certain that it is false
abbrev pub is_known_as : Bool → KnownAtoms → GroundAtom → Bool
is_known_as true k a = is_yes (value_at k a)
is_known_as false k a = is_no (value_at k a)

-- the rows of those atoms that are certainly true, or certainly false
abbrev pub rows_where : Bool → KnownAtoms → List GroundAtom → List PlainRow
rows_where holds k atoms = map row_of (filter (is_known_as holds k) atoms)

-- the rows of a symbol for these arguments that are certainly true, or certainly false
abbrev pub rows_at : Bool → KnownAtoms → ℕ × Symbol → List Elem → List PlainRow
rows_at holds k s args = rows_where holds k (atoms_at k.domains s.0 s.1.value args)

abbrev pub is_some_row : List PlainRow → Bool
is_some_row [] = false
is_some_row (r ∷ rs) = true

-- these rows where there are no others
abbrev pub where_none : List PlainRow → List PlainRow → List PlainRow
where_none [] rows = rows
where_none (r ∷ rs) rows = []

-- whether all is known for some arguments, of which these rows are true, and these false: a predicate's atom is one or
-- the other, and a function has a value
abbrev pub is_settled : Option ℕ → List PlainRow → List PlainRow → Bool
is_settled None trues falses = is_some_row trues || is_some_row falses
is_settled (Some ty) trues falses = is_some_row trues

-- the symbol's tuples of arguments, in domain order
abbrev pub tuples_for : KnownAtoms → ℕ × Symbol → List (List Elem)
tuples_for k s = tuples_of k.domains s.1.args

-- all is known of the symbol
abbrev pub is_whole : KnownAtoms → ℕ × Symbol → Bool
is_whole k s = list_all (λ t. is_settled s.1.value (rows_at true k s t) (rows_at false k s t)) (tuples_for k s)

-- the rows that are certainly true, in domain order
abbrev pub true_rows : KnownAtoms → ℕ × Symbol → List PlainRow
true_rows k s = flat_map (rows_at true k s) (tuples_for k s)

-- the rows that are certainly false, in domain order, but for those that the value of a function implies
abbrev pub false_rows : KnownAtoms → ℕ × Symbol → List PlainRow
false_rows k s = flat_map (λ t. where_none (rows_at true k s t) (rows_at false k s t)) (tuples_for k s)

-- `true` for a row without a value, and else its value
abbrev pub alone_value : Option Elem → PlainValue
alone_value None = truth true
alone_value (Some x) = element x

-- the value of a proposition, or of a constant, with these rows
abbrev pub lone_value : List PlainRow → PlainValue
lone_value [] = truth false
lone_value (r ∷ rs) = alone_value r.value

-- the value of a symbol with these types of arguments, of which all is known
abbrev pub whole_value : List ℕ → List PlainRow → PlainValue
whole_value [] rows = lone_value rows
whole_value (ty ∷ types) rows = table rows

-- the entry with a mark for these rows, where there are some
abbrev pub marked : List ℕ → List ℕ → List PlainRow → List PlainEntry
marked name mark [] = []
marked name mark (r ∷ rs) = record { word = name; mark = Some mark; value = table (r ∷ rs) } ∷ []

-- the entries of the symbol with this number: one without a mark where all is known of it; else what is certainly true,
-- and what is certainly false
abbrev pub symbol_entries : KnownAtoms → ℕ × Symbol → List PlainEntry
symbol_entries k s =
    if is_whole k s then record { word = s.1.name; mark = None; value = whole_value s.1.args (true_rows k s) } ∷ []
    else marked s.1.name (codes "ct") (true_rows k s) ++ marked s.1.name (codes "cf") (false_rows k s)

-- ---- the block

-- the entries of a partial structure over a vocabulary: its types that are not constructed, and then its symbols,
-- in order of declaration
abbrev pub entries_of : Vocabulary → KnownAtoms → List PlainEntry
entries_of v k =
    flat_map (type_entries k.domains) (enumerate_from 0 v.types) ++ flat_map (symbol_entries k)
    (enumerate_from 0 k.symbols)
