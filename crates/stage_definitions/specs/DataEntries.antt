-- What the entries of a structure say: each entry's word, its mark and its rows.
--
-- A type's list is read as the table of a predicate with one argument, a constant's element as a row with nothing but a
-- value, `true` as a table with the empty row, and `false` as one without rows.
use Rattle.std.specs.Prelude.{ℕ, ◌==◌, pos, neg_ℤ, Bool, true, false, not, ◌&&◌, ◌||◌, nat_lt, is_some, is_none, List}
use Rattle.std.specs.Prelude.{[], ◌∷◌, ◌++◌, length, map, filter, flat_map, Option, None, Some, option_map}
use Rattle.std.specs.Prelude.{if◌then◌else◌, codes}
use Rattle.std.specs.List.{enumerate_from}
use Rattle.std.specs.Str.{bytes_eq}
use Rattle.kb_logic.specs.declared.elements.Elem.{Elem}
use Rattle.kb_logic.specs.declared.elements.Elem.TheVariants.{Named, Num}
use Rattle.kb_logic.specs.declared.vocabularies.TypeDecl.{TypeDecl}
use Rattle.kb_logic.specs.declared.vocabularies.Symbol.{Symbol}
use Rattle.kb_logic.specs.declared.vocabularies.Vocabulary.{Vocabulary}
use Rattle.grammar.specs.Trees.{Name}
use Rattle.stage_definitions.specs.Scopes.{Text}
use Rattle.stage_definitions.specs.Names.{text_of, place_of_name}
use Rattle.grammar.specs.BlockTrees as raw
use Rattle.stage_definitions.specs.Elements.{Cell, one, span}

-- ---- the words of entries

-- what an entry's word names: nothing, the name of a constructed type's element, a type, or a symbol
pub data Subject : Type 0 where
  nothing_named : Subject
  an_element : Subject
  a_type : ℕ → TypeDecl → Subject
  a_symbol : ℕ → Symbol → Subject

-- the type of this name, or else what else the word names
abbrev pub named_in_types : Text → List (ℕ × TypeDecl) → Subject → Subject
named_in_types word [] else_named = else_named
named_in_types word (t ∷ ts) else_named = if bytes_eq word t.1.name then a_type t.0 t.1 else named_in_types word ts
    else_named

-- the symbol of this name, or else what else the word names
abbrev pub named_in_symbols : Text → List (ℕ × Symbol) → Subject → Subject
named_in_symbols word [] else_named = else_named
named_in_symbols word (s ∷ ss) else_named = if bytes_eq word s.1.name then a_symbol s.0 s.1 else named_in_symbols word
    ss else_named

-- one of these names of elements, or nothing
abbrev pub named_in_elements : Text → List Text → Subject
named_in_elements word [] = nothing_named
named_in_elements word (n ∷ ns) = if bytes_eq word n then an_element else named_in_elements word ns

-- what a word names in the vocabulary; `int` and `nat` are no types of it
abbrev pub subject_of : Vocabulary → Text → Subject
subject_of v word =
    named_in_types word (enumerate_from 0 v.types)
    (named_in_symbols word (enumerate_from 0 v.symbols) (named_in_elements word (flat_map (λ d. d.made) v.types)))

-- the types of the arguments of a row; a type's list has one, the type itself
abbrev pub argument_types : Subject → List ℕ
argument_types nothing_named = []
argument_types an_element = []
argument_types (a_type t d) = t ∷ []
argument_types (a_symbol s d) = d.args

-- the type of the value of a row
abbrev pub value_type : Subject → Option ℕ
value_type nothing_named = None
value_type an_element = None
value_type (a_type t d) = None
value_type (a_symbol s d) = d.value

-- the entry's word names a type
abbrev pub is_a_type : Subject → Bool
is_a_type nothing_named = false
is_a_type an_element = false
is_a_type (a_type t d) = true
is_a_type (a_symbol s d) = false

-- rows have one argument and no value: a comma separates rows as a semicolon does, and ranges may stand
abbrev pub is_plain_list : Subject → Bool
is_plain_list x = (length (argument_types x) == 1) && not (is_some (value_type x))

-- ---- marks

-- what the rows of an entry say: all that is true, what is certainly true, what is certainly false, or nothing that is
-- understood
pub data Sense : Type 0 where
  everything : Sense
  certainly_true : Sense
  certainly_false : Sense
  unread : Sense

-- the word between `<` and `>`
abbrev pub mark_name : raw.Mark → Name
mark_name (raw.closed_mark p n q) = n
mark_name (raw.open_mark p n) = n

-- the mark `ct` says what is certainly true, `cf` what is certainly false
abbrev pub sense_of : Option Name → Sense
sense_of None = everything
sense_of (Some m) =
    if bytes_eq (text_of m) (codes "ct") then certainly_true else
    (if bytes_eq (text_of m) (codes "cf") then certainly_false else unread)

-- ---- rows as they are written

-- a row: its first token's place, its arguments, and its value
pub record WrittenRow : Type 0 where
  pub place : ℕ
  pub items : List raw.RowItem
  pub value : Option raw.Element

-- the element that is written
abbrev pub element_of : raw.Element → Elem
element_of (raw.named n) = Named (text_of n)
element_of (raw.number n p) = Num (pos n)
element_of (raw.below_zero p n q) = Num (neg_ℤ (pos n))

-- where an element begins; one with a minus, at the minus
abbrev pub place_of_element : raw.Element → ℕ
place_of_element (raw.named n) = place_of_name n
place_of_element (raw.number n p) = p
place_of_element (raw.below_zero p n q) = p

-- where an item begins; a range, where its first element does
abbrev pub place_of_item : raw.RowItem → ℕ
place_of_item (raw.item e to) = place_of_element e

-- where items begin
abbrev pub place_of_items : raw.RowItems → ℕ
place_of_items (raw.items i is) = place_of_item i

-- items, without the commas between them
abbrev pub items_in : raw.RowItems → List raw.RowItem
items_in (raw.items i is) = i ∷ map (λ x. x.1) is

-- the element after an arrow
abbrev pub value_in : Option (ℕ × raw.Element) → Option raw.Element
value_in = option_map (λ x. x.1)

-- an item that is a row by itself
abbrev pub row_of_item : raw.RowItem → WrittenRow
row_of_item i = record { place = place_of_item i; items = i ∷ []; value = None }

-- items that are one row, with what stands after an arrow
abbrev pub row_of_items : raw.RowItems → Option (ℕ × raw.Element) → WrittenRow
row_of_items is to = record { place = place_of_items is; items = items_in is; value = value_in to }

-- the rows that stand between two semicolons, where a comma separates rows or does not; in brackets it does not
abbrev pub rows_between : Bool → raw.Row → List WrittenRow
rows_between true (raw.plain is None) = map row_of_item (items_in is)
rows_between true (raw.plain is (Some to)) = row_of_items is (Some to) ∷ []
rows_between false (raw.plain is to) = row_of_items is to ∷ []
rows_between by_commas (raw.bracketed p is q to) = record { place = p; items = items_in is; value = value_in to } ∷ []
rows_between by_commas (raw.only to) = record { place = to.0; items = []; value = Some to.1 } ∷ []

-- what stands between semicolons
abbrev pub rows_in : raw.Rows → List raw.Row
rows_in (raw.rows r more end) = r ∷ map (λ x. x.1) more

-- the rows of a value
abbrev pub written_rows : Bool → raw.Value → List WrittenRow
written_rows by_commas (raw.truth_value true p) = record { place = p; items = []; value = None } ∷ []
written_rows by_commas (raw.truth_value false p) = []
written_rows by_commas (raw.element_value e) = record { place = place_of_element e; items = []; value = Some e } ∷ []
written_rows by_commas (raw.table p None q) = []
written_rows by_commas (raw.table p (Some rs) q) = flat_map (rows_between by_commas) (rows_in rs)

-- ---- the form of a value

-- the rows are certainly false
abbrev pub is_certainly_false : Sense → Bool
is_certainly_false everything = false
is_certainly_false certainly_true = false
is_certainly_false certainly_false = true
is_certainly_false unread = false

-- a constant has one row, or some that are certainly false
abbrev pub are_for_constant : Sense → ℕ → Bool
are_for_constant sense count = (count == 1) || (is_certainly_false sense && nat_lt 0 count)

-- the value is `true` or `false`
abbrev pub is_truth : raw.Value → Bool
is_truth (raw.truth_value b p) = true
is_truth (raw.element_value e) = false
is_truth (raw.table p rs q) = false

-- the value stands in braces
abbrev pub is_table : raw.Value → Bool
is_table (raw.truth_value b p) = false
is_table (raw.element_value e) = false
is_table (raw.table p rs q) = true

-- whether a value with so many rows is one for a symbol with these types
abbrev pub form_of_symbol : Sense → ℕ → List ℕ → Option ℕ → raw.Value → Bool
form_of_symbol sense count [] None value = is_truth value
form_of_symbol sense count [] (Some ty) value = not (is_truth value) && are_for_constant sense count
form_of_symbol sense count (t ∷ ts) ty value = is_table value

-- a type, and a symbol with arguments, is given a table; a constant an element or rows; a proposition `true` or `false`
abbrev pub has_form : Subject → Sense → ℕ → raw.Value → Bool
has_form nothing_named sense count value = false
has_form an_element sense count value = false
has_form (a_type t d) sense count value = is_table value
has_form (a_symbol s d) sense count value = form_of_symbol sense count d.args d.value value

-- ---- entries

-- an entry: its word, what this names, its mark, whether its value has the form that is asked for, and its rows; a
-- value of another form has none
pub record Said : Type 0 where
  pub word : Name
  pub subject : Subject
  pub mark : Option Name
  pub fits : Bool
  pub rows : List WrittenRow

-- an entry with this word, mark and value, of which these are the rows
abbrev pub said_by : Name → Subject → Option Name → raw.Value → List WrittenRow → Said
said_by word subject mark value rows = record {
  word = word;
  subject = subject;
  mark = mark;
  fits = has_form subject (sense_of mark) (length rows) value;
  rows = if has_form subject (sense_of mark) (length rows) value then rows else [];
}

-- what an entry says
abbrev pub said : Vocabulary → raw.Entry → Said
said v (raw.entry word mark p value) =
    said_by word (subject_of v (text_of word)) (option_map mark_name mark) value
    (written_rows (is_plain_list (subject_of v (text_of word))) value)

-- the entries of a structure
abbrev pub entries_in : raw.Structure → List raw.Entry
entries_in (raw.structure h es p) = es

-- what a structure says, entry by entry
abbrev pub said_in : Vocabulary → raw.Structure → List Said
said_in v s = map (said v) (entries_in s)

-- ---- rows that fit, and what stands in them

-- a value stands there exactly where one is asked for
abbrev pub is_value_for : Option ℕ → Option raw.Element → Bool
is_value_for None value = is_none value
is_value_for (Some t) value = is_some value

-- a row has as many arguments as the entry's word takes, and a value where it takes one
abbrev pub fits_in : Subject → WrittenRow → Bool
fits_in x r = (length r.items == length (argument_types x)) && is_value_for (value_type x) r.value

-- the rows of an entry that fit
abbrev pub fitting : Said → List WrittenRow
fitting e = filter (fits_in e.subject) e.rows

-- a range between integers; between names there is none
abbrev pub range_of : Elem → Elem → Option Cell
range_of (Num a) (Num b) = Some (span a b)
range_of _ _ = None

-- what an item stands for; a range stands for something only in a plain list, and between integers
abbrev pub cell_of : Bool → raw.RowItem → Option Cell
cell_of in_plain_list (raw.item e None) = Some (one (element_of e))
cell_of in_plain_list (raw.item e (Some to)) = if in_plain_list then range_of (element_of e) (element_of to.1) else None

-- an element or a range where it is written: its type, its place, and what it stands for; and whether it stands in the
-- type's own list
pub record Spot : Type 0 where
  pub ty : ℕ
  pub in_list : Bool
  pub place : ℕ
  pub cell : Option Cell

-- the items of a row, at positions of these types
abbrev pub item_spots : Subject → List ℕ → List raw.RowItem → List Spot
item_spots x [] is = []
item_spots x (t ∷ ts) [] = []
item_spots x (t ∷ ts) (i ∷ is) =
    record { ty = t; in_list = is_a_type x; place = place_of_item i; cell = cell_of (is_plain_list x) i }
    ∷ item_spots x ts is

-- the value of a row, at a position of this type
abbrev pub value_spots : Option ℕ → Option raw.Element → List Spot
value_spots (Some t) (Some e) = record {
  ty = t;
  in_list = false;
  place = place_of_element e;
  cell = Some
      (one (element_of e));
} ∷ []
value_spots (Some t) None = []
value_spots None value = []

-- what stands in a row that fits, in the order of the text
abbrev pub row_spots : Subject → WrittenRow → List Spot
row_spots x r = item_spots x (argument_types x) r.items ++ value_spots (value_type x) r.value

-- the elements and ranges of an entry, in the order of the text
abbrev pub spots_of : Said → List Spot
spots_of e = flat_map (row_spots e.subject) (fitting e)
