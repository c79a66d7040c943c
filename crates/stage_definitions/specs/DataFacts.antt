-- What the rows of a structure say of atoms, and where they clash.
use Rattle.std.specs.Prelude.{ℕ, ◌*◌, ◌==◌, Bool, true, false, not, ◌&&◌, ◌||◌, nat_lt, is_none, List, [], ◌∷◌}
use Rattle.std.specs.Prelude.{length, fold, filter, filter_map, flat_map, Option, None, Some, option_map}
use Rattle.std.specs.Prelude.{if◌then◌else◌}
use Rattle.std.specs.List.{list_any}
use Rattle.kb_logic.specs.declared.elements.Elem.{Elem}
use Rattle.kb_logic.specs.declared.vocabularies.TypeDecl.{TypeDecl}
use Rattle.kb_logic.specs.Models.{GroundAtom}
use Rattle.grammar.specs.BlockTrees as raw
use Rattle.stage_definitions.specs.Elements.{Cell, same_element, is_in, is_among, do_share, count_of}
use Rattle.stage_definitions.specs.DataEntries.{Subject, nothing_named, an_element, a_type, a_symbol, Sense, everything}
use Rattle.stage_definitions.specs.DataEntries.{certainly_true, certainly_false, unread, sense_of, WrittenRow}
use Rattle.stage_definitions.specs.DataEntries.{element_of, is_plain_list, cell_of, fitting, Said}
use Rattle.stage_definitions.specs.DataDomains.{cells_of}

-- the atoms of a symbol with arguments in these cells and this value are true, or false, as the row at this place says
pub record Fact : Type 0 where
  pub place : ℕ
  pub symbol : ℕ
  pub holds : Bool
  pub args : List Cell
  pub value : Option Elem

-- ---- the facts of an entry

-- one more cell before these, where both are read
abbrev pub joined_to : Option Cell → Option (List Cell) → Option (List Cell)
joined_to None cells = None
joined_to (Some c) None = None
joined_to (Some c) (Some cs) = Some (c ∷ cs)

-- what the items of a row stand for, where each stands for something
abbrev pub cells_read : Bool → List raw.RowItem → Option (List Cell)
cells_read in_plain_list [] = Some []
cells_read in_plain_list (i ∷ is) = joined_to (cell_of in_plain_list i) (cells_read in_plain_list is)

-- a fact of its parts
abbrev pub fact_at : ℕ → ℕ → Bool → Option Elem → List Cell → Fact
fact_at place symbol holds value args = record {
  place = place;
  symbol = symbol;
  holds = holds;
  args = args;
  value =
      value;
}

-- what a row says of its symbol, where all of its items are read
abbrev pub fact_of : Bool → Subject → WrittenRow → Option Fact
fact_of holds nothing_named r = None
fact_of holds an_element r = None
fact_of holds (a_type t d) r = None
fact_of holds (a_symbol s d) r =
    option_map (fact_at r.place s holds (option_map element_of r.value))
    (cells_read (is_plain_list (a_symbol s d)) r.items)

-- whether the rows with this sense are true or false
abbrev pub signs_of : Sense → List Bool
signs_of everything = true ∷ []
signs_of certainly_true = true ∷ []
signs_of certainly_false = false ∷ []
signs_of unread = []

-- what an entry says of atoms
abbrev pub facts_of : Said → List Fact
facts_of e = flat_map (λ holds. filter_map (fact_of holds e.subject) (fitting e)) (signs_of (sense_of e.mark))

-- what a structure says of atoms, in the order of the text
abbrev pub facts_in : List Said → List Fact
facts_in es = flat_map facts_of es

-- ---- clashes

-- both are no value, or the same one
abbrev pub same_value_of : Option Elem → Option Elem → Bool
same_value_of None None = true
same_value_of None (Some y) = false
same_value_of (Some x) None = false
same_value_of (Some x) (Some y) = same_element x y

-- some tuple is in both rows of cells
abbrev pub all_share : List Cell → List Cell → Bool
all_share [] [] = true
all_share [] (d ∷ ds) = false
all_share (c ∷ cs) [] = false
all_share (c ∷ cs) (d ∷ ds) = do_share c d && all_share cs ds

-- at shared arguments, the same atom both ways or two values
abbrev pub are_opposed : Bool → Bool → Bool → Bool
are_opposed true true same = not same
are_opposed true false same = same
are_opposed false true same = same
are_opposed false false same = false

-- both cannot be so
abbrev pub do_clash : Fact → Fact → Bool
do_clash f g = (f.symbol == g.symbol) && (all_share f.args g.args
    && are_opposed f.holds g.holds (same_value_of f.value g.value))

-- a fact clashes with one of these
abbrev pub clashes_with : List Fact → Fact → Bool
clashes_with fs g = list_any (λ f. do_clash f g) fs

-- ---- functions that are given whole

-- an item that is no range
abbrev pub single_element : raw.RowItem → Option Elem
single_element (raw.item e None) = Some (element_of e)
single_element (raw.item e (Some to)) = None

-- one more element before these, where both are there
abbrev pub added_to : Option Elem → Option (List Elem) → Option (List Elem)
added_to None xs = None
added_to (Some x) None = None
added_to (Some x) (Some xs) = Some (x ∷ xs)

-- the arguments of a row, where it has no range
abbrev pub single_elements : List raw.RowItem → Option (List Elem)
single_elements [] = Some []
single_elements (i ∷ is) = added_to (single_element i) (single_elements is)

-- the same elements, one by one
abbrev pub same_tuple : List Elem → List Elem → Bool
same_tuple [] [] = true
same_tuple [] (y ∷ ys) = false
same_tuple (x ∷ xs) [] = false
same_tuple (x ∷ xs) (y ∷ ys) = same_element x y && same_tuple xs ys

-- one more tuple, unless it stands there already
abbrev pub with_tuple : List (List Elem) → List Elem → List (List Elem)
with_tuple ts t = if list_any (same_tuple t) ts then ts else t ∷ ts

-- each argument is an element of its type
abbrev pub is_over : List TypeDecl → List Said → List ℕ → List Elem → Bool
is_over types es [] [] = true
is_over types es [] (x ∷ xs) = false
is_over types es (t ∷ ts) [] = false
is_over types es (t ∷ ts) (x ∷ xs) = is_among (cells_of types es t) x && is_over types es ts xs

-- the different tuples of elements of these types that an entry has as arguments
abbrev pub tuples_given : List TypeDecl → List Said → List ℕ → Said → List (List Elem)
tuples_given types es args e = fold with_tuple []
    (filter (is_over types es args) (filter_map (λ r. single_elements r.items) (fitting e)))

-- how many tuples there are over these types
abbrev pub tuple_count : List TypeDecl → List Said → List ℕ → ℕ
tuple_count types es args = fold (λ n t. n * count_of (cells_of types es t)) 1 args

-- fewer tuples are given than there are
abbrev pub misses_a_tuple : List TypeDecl → List Said → List ℕ → Said → Bool
misses_a_tuple types es args e = nat_lt (length (tuples_given types es args e)) (tuple_count types es args)

-- ---- atoms

-- each element is in its cell
abbrev pub are_in : List Elem → List Cell → Bool
are_in [] [] = true
are_in [] (c ∷ cs) = false
are_in (x ∷ xs) [] = false
are_in (x ∷ xs) (c ∷ cs) = is_in x c && are_in xs cs

-- the fact speaks of the atom, or of the function at its arguments
abbrev pub is_about : GroundAtom → Fact → Bool
is_about a f = (f.symbol == a.symbol) && are_in a.args f.args

-- the fact says that the atom is true, that it is false, or that the function has another value
abbrev pub says_true : GroundAtom → Fact → Bool
says_true a f = is_about a f && (f.holds && same_value_of f.value a.value)

-- a fact says that the atom is false, or that the function has another value
abbrev pub says_false : GroundAtom → Fact → Bool
says_false a f = is_about a f && are_opposed true f.holds (same_value_of f.value a.value)

-- the word names the symbol with this number
abbrev pub gives_whole : ℕ → Subject → Bool
gives_whole s nothing_named = false
gives_whole s an_element = false
gives_whole s (a_type t d) = false
gives_whole s (a_symbol r d) = r == s

-- the symbol has an entry without a mark, so that what is not listed is false
abbrev pub is_whole : List Said → ℕ → Bool
is_whole es s = list_any (λ e. gives_whole s e.subject && is_none e.mark) es

-- some row says that the atom is true
abbrev pub is_said_true : List Said → GroundAtom → Bool
is_said_true es a = list_any (says_true a) (facts_in es)

-- some row says that the atom is false, or its symbol is given whole without it
abbrev pub is_said_false : List Said → GroundAtom → Bool
is_said_false es a = list_any (says_false a) (facts_in es) || (is_whole es a.symbol && not (is_said_true es a))
