-- The stage of data: what it refuses in the chosen structure, and of integers in the chosen theory and the terms.
use Rattle.std.specs.Prelude.{ℕ, Bool, true, false, not, ◌&&◌, ◌||◌, is_some, is_none, nat_lt, List, [], ◌∷◌, ◌++◌}
use Rattle.std.specs.Prelude.{map, Option, None, Some, slice_get, option_to_list, zip, flat_map, if◌then◌else◌}
use Rattle.std.specs.List.{list_any, list_all, enumerate_from}
use Rattle.std.specs.Str.{bytes_eq}
use Rattle.kb_text.specs.declared.fault.K.{K}
use Rattle.kb_text.specs.declared.fault.K.TheVariants as k
use Rattle.kb_text.specs.declared.fault.KbFault.{KbFault}
use Rattle.kb_logic.specs.declared.elements.Elem.{Elem}
use Rattle.kb_logic.specs.declared.elements.Elem.TheVariants.{Num}
use Rattle.kb_logic.specs.declared.vocabularies.TypeDecl.{TypeDecl}
use Rattle.kb_logic.specs.declared.vocabularies.Symbol.{Symbol}
use Rattle.kb_logic.specs.declared.vocabularies.Vocabulary.{Vocabulary}
use Rattle.kb_logic.specs.Structures.{domain_at}
use Rattle.grammar.specs.BlockTrees as raw
use Rattle.grammar.specs.Trees.{Name}
use Rattle.stage_definitions.specs.Earliest.{IsRowOf, noted_at}
use Rattle.stage_definitions.specs.Names.{text_of, place_of_name}
use Rattle.stage_definitions.specs.Below.{type_above}
use Rattle.stage_definitions.specs.TypedFiles.{TypedTheoryTree, TypedTermTree, TypedFile}
use Rattle.stage_definitions.specs.TheoryItems.{items_of}
use Rattle.stage_definitions.specs.Elements.{Cell, same_element, is_covered, count_of}
use Rattle.stage_definitions.specs.DataEntries.{Subject, nothing_named, an_element, a_type, a_symbol, is_a_type, Sense}
use Rattle.stage_definitions.specs.DataEntries.{everything, certainly_true, certainly_false, unread, sense_of}
use Rattle.stage_definitions.specs.DataEntries.{WrittenRow, Said, said_in, fits_in, Spot, spots_of}
use Rattle.stage_definitions.specs.DataDomains.{is_listed, cells_given, parent_of_type, is_constructed, made_cells}
use Rattle.stage_definitions.specs.DataDomains.{has_what_occurs, occurring_cells, cells_of, domains_of, is_of_kind}
use Rattle.stage_definitions.specs.DataDomains.{is_in_range}
use Rattle.stage_definitions.specs.DataFacts.{Fact, facts_in, clashes_with, misses_a_tuple}
use Rattle.stage_definitions.specs.IntegerArguments.{Argument, item_integers, term_integers, arguments_at}

-- what the stage looks at
pub data DataUse : Type 0 where
  -- a type with its number, and the place of its name
  declared : ℕ → TypeDecl → ℕ → DataUse
  -- an integer that is an argument of a function
  argument : Argument → DataUse
  -- an entry, at its word, after these
  entry : List Said → Said → DataUse
  -- the mark of an entry
  mark : Subject → Name → DataUse
  -- a row of an entry, as it is written
  row : Subject → WrittenRow → DataUse
  -- what a row says of atoms, after what the rows before it say
  fact : List Fact → Fact → DataUse
  -- an element or a range
  spot : Spot → DataUse

-- where a refusal of it stands
abbrev pub place_of_data_use : DataUse → ℕ
place_of_data_use (declared t d place) = place
place_of_data_use (argument a) = a.place
place_of_data_use (entry before e) = place_of_name e.word
place_of_data_use (mark x m) = place_of_name m
place_of_data_use (row x r) = r.place
place_of_data_use (fact before f) = f.place
place_of_data_use (spot s) = s.place

-- ---- the uses

-- the mark of an entry, if it has one
abbrev pub mark_uses : Subject → Option Name → List DataUse
mark_uses x None = []
mark_uses x (Some m) = mark x m ∷ []

-- an entry after these: its word, its mark, its rows, and what stands in these
abbrev pub uses_of_entry : List Said → Said → List DataUse
uses_of_entry before e =
    entry before e ∷ (mark_uses e.subject e.mark ++ (map (row e.subject) e.rows ++ map spot (spots_of e)))

-- entries after these, each after the ones before it
abbrev pub uses_of_entries : List Said → List Said → List DataUse
uses_of_entries before [] = []
uses_of_entries before (e ∷ es) = uses_of_entry before e ++ uses_of_entries (before ++ e ∷ []) es

-- facts after these, each after the ones before it
abbrev pub uses_of_facts : List Fact → List Fact → List DataUse
uses_of_facts before [] = []
uses_of_facts before (f ∷ fs) = fact before f ∷ uses_of_facts (before ++ f ∷ []) fs

-- a type with its number, and its place
abbrev pub type_use : (ℕ × TypeDecl) × ℕ → DataUse
type_use x = declared x.0.0 x.0.1 x.1

-- the types, whose names stand at these places
abbrev pub uses_of_types : List TypeDecl → List ℕ → List DataUse
uses_of_types types places = map type_use (zip (enumerate_from 0 types) places)

-- all that a structure with these entries says by itself; the types' names stand at these places
abbrev pub structure_uses : List TypeDecl → List ℕ → List Said → List DataUse
structure_uses types places es = uses_of_types types places ++ (uses_of_entries [] es ++ uses_of_facts [] (facts_in es))

-- the arguments in a theory whose terms begin at these places
abbrev pub arguments_of_theory : List Symbol → TypedTheoryTree × List ℕ → List Argument
arguments_of_theory symbols t = arguments_at t.1 (flat_map (item_integers symbols) (items_of t.0.theory))

-- the arguments in a term block whose terms begin at these places
abbrev pub arguments_of_block : List Symbol → TypedTermTree × List ℕ → List Argument
arguments_of_block symbols b = arguments_at b.1 (term_integers symbols None b.0.term)

-- the theory with this number, and where its terms begin
abbrev pub chosen_theory : TypedFile → ℕ → List (TypedTheoryTree × List ℕ)
chosen_theory f theory = option_to_list (slice_get (zip f.theories f.places.theory_terms) theory)

-- the integers beside a structure: those in the theory with this number, and in all term blocks
abbrev pub argument_uses : TypedFile → ℕ → List DataUse
argument_uses f theory =
    map (λ a. argument a) (flat_map (arguments_of_theory f.vocabulary.symbols) (chosen_theory f theory)
    ++ flat_map (arguments_of_block f.vocabulary.symbols) (zip f.terms f.places.block_terms))

-- all that is looked at: a structure with these entries, and the integers beside it
abbrev pub data_uses : TypedFile → ℕ → List Said → List DataUse
data_uses f theory es = structure_uses f.vocabulary.types f.places.types es ++ argument_uses f theory

-- ---- the rows of the table, each a test of a use by itself

-- the word names nothing
abbrev pub is_nothing : Subject → Bool
is_nothing nothing_named = true
is_nothing an_element = false
is_nothing (a_type t d) = false
is_nothing (a_symbol s d) = false

-- the word names nothing
abbrev pub is_unknown : DataUse → Bool
is_unknown (entry before e) = is_nothing e.subject
is_unknown _ = false

-- two entries of one word may differ only in that one says what is true, and the other what is false
abbrev pub same_marks : Option Name → Option Name → Bool
same_marks None n = true
same_marks (Some m) None = true
same_marks (Some m) (Some n) = bytes_eq (text_of m) (text_of n)

-- one of the entries before has the same word, and no other mark
abbrev pub is_again : DataUse → Bool
is_again (entry before e) = list_any (λ q. bytes_eq (text_of q.word) (text_of e.word)
    && same_marks q.mark e.mark) before
is_again _ = false

-- a value of another form, or a row of another length
abbrev pub is_misformed : DataUse → Bool
is_misformed (entry before e) = not (is_nothing e.subject) && not e.fits
is_misformed (row x r) = not (fits_in x r)
is_misformed _ = false

-- a type under another one has no list
abbrev pub is_not_given : List Said → DataUse → Bool
is_not_given es (declared t d place) = is_some (type_above d.parent) && not (is_listed es t)
is_not_given es _ = false

-- there is such a type, and it passes the test
abbrev pub type_is : (TypeDecl → Bool) → Option TypeDecl → Bool
type_is test None = false
type_is test (Some d) = test d

-- the element or range stands in a constructed type's own entry, which gives the type no elements
abbrev pub is_idle : List TypeDecl → Spot → Bool
is_idle types s = s.in_list && type_is is_constructed (slice_get types s.ty)

-- it gives its type elements: it stands in the type's list, or the type has the elements that occur
abbrev pub gives : List TypeDecl → List Said → Spot → Bool
gives types es s = s.in_list || type_is (has_what_occurs es s.ty) (slice_get types s.ty)

-- each element of the cell is in the type above, if there is one
abbrev pub is_in_type_above : List TypeDecl → List Said → Option ℕ → Cell → Bool
is_in_type_above types es None c = true
is_in_type_above types es (Some t) c = is_covered (cells_of types es t) c

-- what gives a type elements is of the type's kind, and in the type above; all else is in the type
abbrev pub is_outside : List TypeDecl → List Said → Spot → Cell → Bool
is_outside types es s c =
    if gives types es s
    then not (is_of_kind types s.ty c) || (s.in_list && not (is_in_type_above types es (parent_of_type types s.ty) c))
    else not (is_covered (cells_of types es s.ty) c)

-- the item stands for something that passes the test
abbrev pub cell_is : (Cell → Bool) → Option Cell → Bool
cell_is test None = false
cell_is test (Some c) = test c

-- over these domains the integer is no element of its position's type
abbrev pub is_foreign : List (List Elem) → Argument → Bool
is_foreign domains a = not (list_any (same_element (Num a.number)) (domain_at domains a.ty))

-- an element or an integer is not in its type
abbrev pub is_no_element : List TypeDecl → List Said → DataUse → Bool
is_no_element types es (argument a) = is_foreign (domains_of types es) a
is_no_element types es (spot s) = not (is_idle types s) && cell_is (is_outside types es s) s.cell
is_no_element types es _ = false

-- a constructed type has exactly its names
abbrev pub is_other_set : List Cell → List Cell → Bool
is_other_set made given = not (list_all (is_covered given) made && list_all (is_covered made) given)

-- a function without a mark gives each tuple a value
abbrev pub is_partial : List TypeDecl → List Said → Option Name → Symbol → Said → Bool
is_partial types es given_mark d e = is_none given_mark && (is_some d.value && misses_a_tuple types es d.args e)

-- a constructed type's entry has another set, or a function's misses a value
abbrev pub is_not_whole : List TypeDecl → List Said → Said → Subject → Bool
is_not_whole types es e nothing_named = false
is_not_whole types es e an_element = false
is_not_whole types es e (a_type t d) = is_constructed d && is_other_set (made_cells d) (cells_given e)
is_not_whole types es e (a_symbol s d) = is_partial types es e.mark d e

-- another set for a constructed type, a function without a value, or a row that clashes with an earlier one
abbrev pub is_clash : List TypeDecl → List Said → DataUse → Bool
is_clash types es (entry before e) = is_not_whole types es e e.subject
is_clash types es (fact before f) = clashes_with before f
is_clash types es _ = false

-- the mark is not one that is read
abbrev pub is_no_mark : Sense → Bool
is_no_mark everything = false
is_no_mark certainly_true = false
is_no_mark certainly_false = false
is_no_mark unread = true

-- a mark on a type, another mark, or a range that may not stand there
abbrev pub is_unsupported : DataUse → Bool
is_unsupported (mark x m) = is_a_type x || is_no_mark (sense_of (Some m))
is_unsupported (spot s) = is_none s.cell
is_unsupported _ = false

-- an integer of a domain is out of range
abbrev pub is_out_of_range : List TypeDecl → List Said → DataUse → Bool
is_out_of_range types es (spot s) = not (is_idle types s)
    && (gives types es s && cell_is (λ c. not (is_in_range c)) s.cell)
is_out_of_range types es _ = false

-- the most elements that a type may have
abbrev pub element_limit : ℕ
element_limit = 65536

-- a list has too many elements, or they are too many that occur
abbrev pub is_too_large : List TypeDecl → List Said → DataUse → Bool
is_too_large types es (entry before e) = is_a_type e.subject && nat_lt element_limit (count_of (cells_given e))
is_too_large types es (declared t d place) = has_what_occurs es t d
    && nat_lt element_limit (count_of (occurring_cells types es t))
is_too_large types es _ = false

-- ---- the table

-- whether the row for a cause refuses the use
abbrev pub is_data_refused : List TypeDecl → List Said → DataUse → K → Bool
is_data_refused types es u k.UnknownName = is_unknown u
is_data_refused types es u k.Redeclared = is_again u
is_data_refused types es u k.WrongArity = is_misformed u
is_data_refused types es u k.TypeNotGiven = is_not_given es u
is_data_refused types es u k.NotAnElement = is_no_element types es u
is_data_refused types es u k.DataClash = is_clash types es u
is_data_refused types es u k.Unsupported = is_unsupported u
is_data_refused types es u k.OutOfRange = is_out_of_range types es u
is_data_refused types es u k.TooLarge = is_too_large types es u
is_data_refused types es u cause = false

-- the causes of this stage
abbrev pub data_causes : List K
data_causes = k.UnknownName ∷ k.Redeclared ∷ k.WrongArity ∷ k.TypeNotGiven ∷ k.NotAnElement ∷ k.DataClash
    ∷ k.Unsupported ∷ k.OutOfRange ∷ k.TooLarge ∷ []

-- a row of the table holds of one of these uses, beside these entries
abbrev pub DataRefuse : List TypeDecl → List Said → List DataUse → KbFault → Type 0
DataRefuse types es = IsRowOf (is_data_refused types es) place_of_data_use data_causes

-- the earliest refusal so far, and then those of one use
abbrev pub data_noted : List TypeDecl → List Said → Option KbFault → DataUse → Option KbFault
data_noted types es = noted_at (is_data_refused types es) place_of_data_use data_causes

-- a refusal of what the structure s says by itself, where the types' names stand at these places
abbrev pub EntriesRefuse : Vocabulary → List ℕ → raw.Structure → KbFault → Type 0
EntriesRefuse v places s = DataRefuse v.types (said_in v s) (structure_uses v.types places (said_in v s))

-- a refusal of an integer beside the structure s
abbrev pub ArgumentsRefuse : TypedFile → ℕ → raw.Structure → KbFault → Type 0
ArgumentsRefuse f theory s = DataRefuse f.vocabulary.types (said_in f.vocabulary s) (argument_uses f theory)

-- a refusal of the structure s beside the theory with this number, in a file
abbrev pub StructureRefuses : TypedFile → ℕ → raw.Structure → KbFault → Type 0
StructureRefuses f theory s = DataRefuse f.vocabulary.types (said_in f.vocabulary s)
    (data_uses f theory (said_in f.vocabulary s))
