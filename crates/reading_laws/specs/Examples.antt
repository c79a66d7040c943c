-- Worked examples of the stage of data. The places in the file of areas and colors are those of its text.
use Rattle.std.specs.Prelude.{◌≡◌, ℕ, ◌+◌, pos, Bool, true, false, List, [], ◌∷◌, Option, None, Some, codes}
use Rattle.kb_logic.specs.declared.elements.Elem.{Elem}
use Rattle.kb_logic.specs.declared.elements.Elem.TheVariants.{Named, Num}
use Rattle.kb_logic.specs.declared.vocabularies.Parent.TheVariants as parent
use Rattle.kb_logic.specs.declared.vocabularies.Vocabulary.{Vocabulary}
use Rattle.kb_logic.specs.Trees as tree
use Rattle.kb_logic.specs.Trees.{TermTree}
use Rattle.kb_logic.specs.Models.{GroundAtom}
use Rattle.kb_text.specs.declared.fault.K.TheVariants as k
use Rattle.kb_text.specs.declared.fault.KbFault.{KbFault}
use Rattle.grammar.specs.BlockTrees as raw
use Rattle.stage_definitions.specs.Earliest.{refusal}
use Rattle.stage_definitions.specs.TypedFiles.{TypedTermTree}
use Rattle.reading_laws.specs.Written.{atom, known, type_under, type_from, symbol, vocabulary, word, integer, minus}
use Rattle.reading_laws.specs.Written.{single, range, plain, to, bracketed, only, alone, table, entry, marked}
use Rattle.reading_laws.specs.Written.{refused_beside, given}

abbrev element : List ℕ → Elem
element text = Named text

abbrev number : ℕ → Elem
number n = Num (pos n)

-- ---- the file of areas and colors

-- type Area  type Color constructed from {Red, Green}  Border(Area,Area)  color(Area):Color
abbrev pub areas_and_colors : Vocabulary
areas_and_colors =
    vocabulary (type_under (codes "Area") parent.Root ∷ type_from (codes "Color") (codes "Red" ∷ codes "Green" ∷ [])
    ∷ [])
    (symbol (codes "Border") (0 ∷ 0 ∷ []) None ∷ symbol (codes "color") (0 ∷ []) (Some 1) ∷ [])

-- Area = {b; f}
abbrev pub two_areas : raw.Entry
two_areas = entry (codes "Area") 194 (table (alone (word (codes "b") 202) ∷ alone (word (codes "f") 205) ∷ []))

-- a, c where a and c stand at these places
abbrev pair : List ℕ → ℕ → List ℕ → ℕ → raw.Row
pair a p c q = plain (single (word a p)) (single (word c q) ∷ [])

-- Border = {b,f}
abbrev pub one_border : raw.Entry
one_border = entry (codes "Border") 210 (table (pair (codes "b") 220 (codes "f") 222 ∷ []))

abbrev refused : List raw.Entry → Option KbFault
refused es = refused_beside areas_and_colors (22 ∷ 34 ∷ []) [] [] es

abbrev border : List ℕ → List ℕ → GroundAtom
border a c = atom 0 (element a ∷ element c ∷ []) None

abbrev colored : List ℕ → List ℕ → GroundAtom
colored a c = atom 1 (element a ∷ []) (Some (element c))

abbrev areas : List (List Elem)
areas = (element (codes "b") ∷ element (codes "f") ∷ []) ∷ (element (codes "Red") ∷ element (codes "Green") ∷ []) ∷ []

-- the same with `type Town isa Area` after `type Area`
abbrev with_towns : Vocabulary
with_towns =
    vocabulary (type_under (codes "Area") parent.Root ∷ type_under (codes "Town") (parent.Of 0)
    ∷ type_from (codes "Color") (codes "Red" ∷ codes "Green" ∷ []) ∷ [])
    (symbol (codes "Border") (0 ∷ 0 ∷ []) None ∷ symbol (codes "color") (0 ∷ []) (Some 2) ∷ [])

-- a -> c where a and c stand at these places
abbrev color_row : List ℕ → ℕ → List ℕ → ℕ → raw.Row
color_row a p c q = to (single (word a p)) [] (word c q)

-- color = {..} at the place 230, with a mark at 236
abbrev color_is : List raw.Row → raw.Entry
color_is rs = entry (codes "color") 230 (table rs)

abbrev color_marked : ℕ → List ℕ → List raw.Row → raw.Entry
color_marked place m rs = marked (codes "color") place m (place + 6) (table rs)

pub record AreasAreWorkedOut : Type 0 where
  -- the file is accepted: Border is known whole, and nothing of color
  pub accepted : refused (two_areas ∷ one_border ∷ []) ≡ None
  pub answer :
      given areas_and_colors (two_areas ∷ one_border ∷ [])
      ≡ known areas_and_colors areas
      (border (codes "b") (codes "f") ∷ [])
      (border (codes "b") (codes "b") ∷ border (codes "f") (codes "b") ∷ border (codes "f") (codes "f") ∷ [])
  -- type Area type Town isa Area: Town has no list
  pub no_list : refused_beside with_towns (22 ∷ 32 ∷ 52 ∷ []) [] [] (two_areas ∷ one_border ∷ [])
      ≡ Some (refusal k.TypeNotGiven 32)
  -- Border = {b,z}
  pub no_area : refused (two_areas ∷ entry (codes "Border") 210 (table (pair (codes "b") 220 (codes "z") 222 ∷ []))
      ∷ []) ≡ Some (refusal k.NotAnElement 222)
  -- Border = {b,f}  Area = 1: a value of another form is no list, so Area has what occurs
  pub no_list_of_areas : refused (one_border ∷ entry (codes "Area") 230 (raw.element_value (integer 1 237)) ∷ [])
      ≡ Some (refusal k.WrongArity 230)
  -- Border<ct> = {b,f} Border<cf> = {b,f}
  pub both_ways :
      refused
      (two_areas
      ∷ marked (codes "Border") 210 (codes "ct") 217 (table (pair (codes "b") 224 (codes "f") 226 ∷ []))
      ∷ marked (codes "Border") 229 (codes "cf") 236 (table (pair (codes "b") 243 (codes "f") 245 ∷ []))
      ∷ [])
      ≡ Some (refusal k.DataClash 243)
  -- Area = {b; f; 2000000}
  pub out_of_range :
      refused
      (entry (codes "Area") 194 (table (alone (word (codes "b") 202) ∷ alone (word (codes "f") 205)
      ∷ alone (integer 2000000 208) ∷ []))
      ∷ one_border
      ∷ [])
      ≡ Some (refusal k.OutOfRange 208)
  -- Area = {b; f; 1..2000} is no refusal of this stage
  pub many_areas :
      refused
      (entry (codes "Area") 194 (table (alone (word (codes "b") 202) ∷ alone (word (codes "f") 205)
      ∷ plain (range (integer 1 208) (integer 2000 211)) [] ∷ []))
      ∷ one_border
      ∷ [])
      ≡ None
  -- Area = {b, f; b}: a comma separates as a semicolon does, and a doubled row is harmless
  pub commas : refused (entry (codes "Area") 194 (table (pair (codes "b") 202 (codes "f") 205
      ∷ alone (word (codes "b") 208) ∷ [])) ∷ one_border ∷ []) ≡ None
  -- Area = {(b, f)}: in brackets it makes a tuple
  pub tuple : refused (entry (codes "Area") 194 (table
      (bracketed 202 (single (word (codes "b") 203)) (single (word (codes "f") 206) ∷ []) ∷ [])) ∷ [])
      ≡ Some (refusal k.WrongArity 202)
  -- Town = {b}: a word that names nothing, and `int` names no type
  pub unknown_word : refused (two_areas ∷ entry (codes "Town") 210 (table []) ∷ []) ≡ Some (refusal k.UnknownName 210)
  pub no_type : refused (two_areas ∷ entry (codes "int") 210 (table (alone (integer 1 217) ∷ [])) ∷ [])
      ≡ Some (refusal k.UnknownName 210)
  -- Red = {b}: the name of an element
  pub an_element : refused (two_areas ∷ entry (codes "Red") 210 (table []) ∷ []) ≡ Some (refusal k.WrongArity 210)
  -- Border = {b,f} twice; without a mark and with one; with the two marks
  pub twice : refused (two_areas ∷ one_border ∷ entry (codes "Border") 230 (table []) ∷ [])
      ≡ Some (refusal k.Redeclared 230)
  pub mark_and_none : refused (two_areas ∷ one_border ∷ marked (codes "Border") 230 (codes "cf") 237 (table []) ∷ [])
      ≡ Some (refusal k.Redeclared 230)
  pub two_marks : refused (two_areas ∷ marked (codes "Border") 210 (codes "ct") 217 (table [])
      ∷ marked (codes "Border") 230 (codes "cf") 237 (table []) ∷ []) ≡ None
  -- Border = true, Border = {b}, Border = {b,f -> b} and color<ct> = {b}
  pub other_form : refused (two_areas ∷ entry (codes "Border") 210 (raw.truth_value true 219) ∷ [])
      ≡ Some (refusal k.WrongArity 210)
  pub short_row : refused (two_areas ∷ entry (codes "Border") 210 (table (alone (word (codes "b") 220) ∷ [])) ∷ [])
      ≡ Some (refusal k.WrongArity 220)
  pub arrow_too_many : refused (two_areas ∷ entry (codes "Border") 210
      (table (to (single (word (codes "b") 220)) (single (word (codes "f") 222) ∷ []) (word (codes "b") 227) ∷ []))
      ∷ []) ≡ Some (refusal k.WrongArity 220)
  pub arrow_too_few : refused (two_areas ∷ color_marked 230 (codes "ct") (alone (word (codes "b") 243) ∷ []) ∷ [])
      ≡ Some (refusal k.WrongArity 243)
  -- Border = {b,1..2} with a range where none may stand; Border = {1..2}, where the row is too short at the same token
  pub range_elsewhere : refused (two_areas ∷ entry (codes "Border") 210
      (table (plain (single (word (codes "b") 220)) (range (integer 1 222) (integer 2 225) ∷ []) ∷ [])) ∷ [])
      ≡ Some (refusal k.Unsupported 222)
  pub range_and_short : refused (two_areas ∷ entry (codes "Border") 210
      (table (plain (range (integer 1 220) (integer 2 223)) [] ∷ [])) ∷ []) ≡ Some (refusal k.WrongArity 220)
  -- Area = {b..f}: a range of names
  pub range_of_names : refused (entry (codes "Area") 194
      (table (plain (range (word (codes "b") 202) (word (codes "f") 205)) [] ∷ [])) ∷ [])
      ≡ Some (refusal k.Unsupported 202)
  -- Border<u> = {}, and a mark on a type
  pub other_mark : refused (two_areas ∷ marked (codes "Border") 210 (codes "u") 217 (table []) ∷ [])
      ≡ Some (refusal k.Unsupported 217)
  pub mark_on_type : refused (marked (codes "Area") 194 (codes "ct") 199 (table (alone (word (codes "b") 206) ∷ []))
      ∷ []) ≡ Some (refusal k.Unsupported 199)
  -- Color = {Green; Red} is the same set, Color = {Red} another
  pub same_set : refused (two_areas ∷ entry (codes "Color") 210 (table (alone (word (codes "Green") 219)
      ∷ alone (word (codes "Red") 226) ∷ [])) ∷ []) ≡ None
  pub other_set : refused (two_areas ∷ entry (codes "Color") 210 (table (alone (word (codes "Red") 219) ∷ [])) ∷ [])
      ≡ Some (refusal k.DataClash 210)
  -- color = {b->Red; f->Red} is whole, color = {b->Red} is not, and color<ct> = {b->Red} need not be
  pub whole : refused (two_areas ∷ color_is (color_row (codes "b") 239 (codes "Red") 242
      ∷ color_row (codes "f") 247 (codes "Red") 250 ∷ []) ∷ []) ≡ None
  pub no_value : refused (two_areas ∷ color_is (color_row (codes "b") 239 (codes "Red") 242 ∷ []) ∷ [])
      ≡ Some (refusal k.DataClash 230)
  pub marked_need_not : refused (two_areas ∷ color_marked 230 (codes "ct")
      (color_row (codes "b") 243 (codes "Red") 246 ∷ []) ∷ []) ≡ None
  -- color = {b->Red; f->Red; b->Green}
  pub two_values : refused (two_areas ∷ color_is (color_row (codes "b") 239 (codes "Red") 242
      ∷ color_row (codes "f") 247 (codes "Red") 250 ∷ color_row (codes "b") 255 (codes "Green") 258 ∷ []) ∷ [])
      ≡ Some (refusal k.DataClash 255)
  -- color = {b->zz; f->Red}: b has a row, whose value is no color
  pub no_color : refused (two_areas ∷ color_is (color_row (codes "b") 239 (codes "zz") 242
      ∷ color_row (codes "f") 246 (codes "Red") 249 ∷ []) ∷ []) ≡ Some (refusal k.NotAnElement 242)
  -- color = {b,f->Red; f->Red}: the row is too long, so b has none, which is refused at the earlier place
  pub long_row : refused (two_areas ∷ color_is (to (single (word (codes "b") 239)) (single (word (codes "f") 241)
      ∷ []) (word (codes "Red") 244) ∷ color_row (codes "f") 249 (codes "Red") 252 ∷ []) ∷ [])
      ≡ Some (refusal k.DataClash 230)
  -- color<cf> = {b->Red; b->Green}: that all values of b are false is no refusal
  pub all_false : refused (two_areas ∷ color_marked 230 (codes "cf") (color_row (codes "b") 243 (codes "Red") 246
      ∷ color_row (codes "b") 251 (codes "Green") 254 ∷ []) ∷ []) ≡ None
  -- color<ct> = {b->Red} color<cf> = {b->Red}
  pub value_both_ways :
      refused (two_areas ∷ color_marked 230 (codes "ct") (color_row (codes "b") 243 (codes "Red") 246 ∷ [])
      ∷ color_marked 260 (codes "cf") (color_row (codes "b") 273 (codes "Red") 276 ∷ []) ∷ [])
      ≡ Some (refusal k.DataClash 273)
  -- Color = {Red..Green; Red; Green}: the set is that of its names, and the range is one of names
  pub range_in_constructed : refused (two_areas ∷ entry (codes "Color") 210
      (table (plain (range (word (codes "Red") 219) (word (codes "Green") 224)) [] ∷ alone (word (codes "Red") 231)
      ∷ alone (word (codes "Green") 236) ∷ [])) ∷ []) ≡ Some (refusal k.Unsupported 219)
  -- Area<u> = true: the form is refused at the word, which stands before the mark
  pub form_before_mark : refused (marked (codes "Area") 194 (codes "u") 199 (raw.truth_value true 204) ∷ [])
      ≡ Some (refusal k.WrongArity 194)
  -- Area = {b} Area = {f}: both lists count, so Border = {b,f} has areas alone
  pub two_lists :
      (given areas_and_colors (entry (codes "Area") 194 (table (alone (word (codes "b") 202) ∷ []))
      ∷ entry (codes "Area") 206 (table (alone (word (codes "f") 214) ∷ [])) ∷ [])).domains ≡ areas
  pub second_list :
      refused (entry (codes "Area") 194 (table (alone (word (codes "b") 202) ∷ []))
      ∷ entry (codes "Area") 206 (table (alone (word (codes "f") 214) ∷ []))
      ∷ entry (codes "Border") 220 (table (pair (codes "b") 230 (codes "f") 232 ∷ [])) ∷ [])
      ≡ Some (refusal k.Redeclared 206)
  -- color<ct> = {b->Red} color<cf> = {b->Green}: the second says nothing new
  pub other_value_is_false :
      refused (two_areas ∷ color_marked 230 (codes "ct") (color_row (codes "b") 243 (codes "Red") 246 ∷ [])
      ∷ color_marked 260 (codes "cf") (color_row (codes "b") 273 (codes "Green") 276 ∷ []) ∷ []) ≡ None
  -- color<ct> = {b->Red} color<cf> = {f->Red}
  pub known_colors :
      given areas_and_colors (two_areas ∷ color_marked 230 (codes "ct") (color_row (codes "b") 243 (codes "Red") 246
      ∷ []) ∷ color_marked 260 (codes "cf") (color_row (codes "f") 273 (codes "Red") 276 ∷ []) ∷ [])
      ≡ known areas_and_colors areas
      (colored (codes "b") (codes "Red") ∷ [])
      (colored (codes "b") (codes "Green") ∷ colored (codes "f") (codes "Red") ∷ [])

-- ---- numbers, constants and propositions

-- type N isa nat  type I isa int  type E  type S isa E
-- P(N)  f(N):N  c:N  p  Q(E)  e:E  g(I):I
abbrev pub numbers : Vocabulary
numbers =
    vocabulary (type_under (codes "N") parent.Nat ∷ type_under (codes "I") parent.Int
    ∷ type_under (codes "E") parent.Root ∷ type_under (codes "S") (parent.Of 2) ∷ [])
    (symbol (codes "P") (0 ∷ []) None
    ∷ symbol (codes "f") (0 ∷ []) (Some 0)
    ∷ symbol (codes "c") [] (Some 0)
    ∷ symbol (codes "p") [] None
    ∷ symbol (codes "Q") (2 ∷ []) None
    ∷ symbol (codes "e") [] (Some 2)
    ∷ symbol (codes "g") (1 ∷ []) (Some 1)
    ∷ [])

abbrev term_block : TermTree → List TypedTermTree
term_block t = record { name = codes "t"; term = t } ∷ []

-- beside a term block whose terms begin at these places; the types' names stand at 10, 20, 30 and 40
abbrev refused_with : TermTree → List ℕ → List raw.Entry → Option KbFault
refused_with t places es = refused_beside numbers (10 ∷ 20 ∷ 30 ∷ 40 ∷ []) (term_block t) (places ∷ []) es

-- S = {} at the place 95
abbrev no_subtype : raw.Entry
no_subtype = entry (codes "S") 95 (table [])

abbrev refuses_all : List raw.Entry → Option KbFault
refuses_all es = refused_beside numbers (10 ∷ 20 ∷ 30 ∷ 40 ∷ []) [] [] es

abbrev refuses : List raw.Entry → Option KbFault
refuses es = refuses_all (no_subtype ∷ es)

abbrev up_to : ℕ → ℕ → ℕ → raw.Row
up_to a b place = plain (range (integer a place) (integer b (place + 3))) []

-- N = {1..3} at the place 100
abbrev three : raw.Entry
three = entry (codes "N") 100 (table (up_to 1 3 105 ∷ []))

abbrev f_of : TermTree → TermTree
f_of t = tree.application 1 (tree.more_terms t tree.no_terms)

abbrev minus_three : TermTree
minus_three = tree.summation (tree.more_summands true (tree.integer (pos 3)) tree.no_summands)

abbrev constant_is : raw.Value → raw.Entry
constant_is value = entry (codes "c") 120 value

abbrev constant_marked : List ℕ → List raw.Row → raw.Entry
constant_marked m rs = marked (codes "c") 120 m 122 (table rs)

abbrev proposition : List ℕ → ℕ → Bool → raw.Entry
proposition m place b = marked (codes "p") place m (place + 2) (raw.truth_value b (place + 8))

abbrev p_atom : GroundAtom
p_atom = atom 3 [] None

abbrev of_p : List raw.Entry → List GroundAtom × List GroundAtom
of_p es = ((given numbers es).true_atoms, (given numbers es).false_atoms)

pub record NumbersAreWorkedOut : Type 0 where
  -- N = {1..3}  P = {2..5}: a range is in the type where all its members are, and {5..4} has none
  pub in_range : refuses (three ∷ entry (codes "P") 120 (table (up_to 1 2 125 ∷ [])) ∷ []) ≡ None
  pub past_range : refuses (three ∷ entry (codes "P") 120 (table (up_to 2 5 125 ∷ [])) ∷ [])
      ≡ Some (refusal k.NotAnElement 125)
  pub empty_range : refuses (three ∷ entry (codes "P") 120 (table (up_to 5 4 125 ∷ [])) ∷ []) ≡ None
  -- N = {3; 1..2} has 1..3 too
  pub in_parts : refuses (entry (codes "N") 100 (table (alone (integer 3 105) ∷ up_to 1 2 108 ∷ []))
      ∷ entry (codes "P") 120 (table (up_to 1 3 125 ∷ [])) ∷ []) ≡ None
  -- N = {-1}, N = {a} and, with no list, P = {a}
  pub negative : refuses (entry (codes "N") 100 (table (alone (minus 1 105) ∷ [])) ∷ [])
      ≡ Some (refusal k.NotAnElement 105)
  pub no_number : refuses (entry (codes "N") 100 (table (alone (word (codes "a") 105) ∷ [])) ∷ [])
      ≡ Some (refusal k.NotAnElement 105)
  pub occurring_word : refuses (entry (codes "P") 120 (table (alone (word (codes "a") 125) ∷ [])) ∷ [])
      ≡ Some (refusal k.NotAnElement 125)
  -- I = {-1}, and I = {-1000001}, at its minus
  pub below_zero : refuses (entry (codes "I") 100 (table (alone (minus 1 105) ∷ [])) ∷ []) ≡ None
  pub too_low : refuses (entry (codes "I") 100 (table (alone (minus 1000001 105) ∷ [])) ∷ [])
      ≡ Some (refusal k.OutOfRange 105)
  -- with no list of N: P = {2000000}
  pub occurring_too_high : refuses (entry (codes "P") 120 (table (alone (integer 2000000 125) ∷ [])) ∷ [])
      ≡ Some (refusal k.OutOfRange 125)
  -- N = {1..65536} and N = {0..65536}, of which the last has too many; N = {1..2000000} has too many, and then an
  -- integer out of range
  pub enough : refuses (entry (codes "N") 100 (table (up_to 1 65536 105 ∷ [])) ∷ []) ≡ None
  pub too_many : refuses (entry (codes "N") 100 (table (up_to 0 65536 105 ∷ [])) ∷ []) ≡ Some (refusal k.TooLarge 100)
  pub too_many_first : refuses (entry (codes "N") 100 (table (up_to 1 2000000 105 ∷ [])) ∷ [])
      ≡ Some (refusal k.TooLarge 100)
  -- N = {1..40000; 20000..60000} has 60,000
  pub overlapping : refuses (entry (codes "N") 100 (table (up_to 1 40000 105 ∷ up_to 20000 60000 120 ∷ [])) ∷ []) ≡ None
  -- with no list of N: P = {0..65536}, at the type's name
  pub too_many_occur : refuses (entry (codes "P") 120 (table (up_to 0 65536 125 ∷ [])) ∷ [])
      ≡ Some (refusal k.TooLarge 10)
  -- the term f(5), f(-3) and f(3), where N = {1..3}
  pub no_argument : refused_with (f_of (tree.integer (pos 5))) (70 ∷ 72 ∷ []) (no_subtype ∷ three ∷ [])
      ≡ Some (refusal k.NotAnElement 72)
  pub minus_argument : refused_with (f_of minus_three) (70 ∷ 72 ∷ 73 ∷ []) (no_subtype ∷ three ∷ [])
      ≡ Some (refusal k.NotAnElement 72)
  pub an_argument : refused_with (f_of (tree.integer (pos 3))) (70 ∷ 72 ∷ []) (no_subtype ∷ three ∷ []) ≡ None
  -- P<ct> = {2}  P<cf> = {1..3}: the later row
  pub overlapping_rows :
      refuses (three ∷ marked (codes "P") 120 (codes "ct") 122 (table (alone (integer 2 128) ∷ []))
      ∷ marked (codes "P") 140 (codes "cf") 142 (table (up_to 1 3 148 ∷ [])) ∷ []) ≡ Some (refusal k.DataClash 148)
  -- c = 2, c = {-> 2}, c = {}, c = {-> 1; -> 1}, c<cf> = {-> 1; -> 2} and c = true
  pub constant : refuses (three ∷ constant_is (raw.element_value (integer 2 124)) ∷ []) ≡ None
  pub constant_row : refuses (three ∷ constant_is (table (only 125 (integer 2 128) ∷ [])) ∷ []) ≡ None
  pub no_row : refuses (three ∷ constant_is (table []) ∷ []) ≡ Some (refusal k.WrongArity 120)
  pub two_rows : refuses (three ∷ constant_is (table (only 125 (integer 1 128) ∷ only 131 (integer 1 134) ∷ [])) ∷ [])
      ≡ Some (refusal k.WrongArity 120)
  pub false_rows : refuses (three ∷ constant_marked (codes "cf") (only 129 (integer 1 132) ∷ only 135 (integer 2 138)
      ∷ []) ∷ []) ≡ None
  pub constant_truth : refuses (three ∷ constant_is (raw.truth_value true 124) ∷ []) ≡ Some (refusal k.WrongArity 120)
  -- c = 7
  pub no_constant : refuses (three ∷ constant_is (raw.element_value (integer 7 124)) ∷ [])
      ≡ Some (refusal k.NotAnElement 124)
  -- p = false makes p false; p<cf> = true does too; p<ct> = false says nothing; p = {}
  pub made_false : of_p (entry (codes "p") 120 (raw.truth_value false 124) ∷ []) ≡ ([], p_atom ∷ [])
  pub certainly_false : of_p (proposition (codes "cf") 120 true ∷ []) ≡ ([], p_atom ∷ [])
  pub certainly_true : of_p (proposition (codes "ct") 120 true ∷ []) ≡ (p_atom ∷ [], [])
  pub says_nothing : of_p (proposition (codes "ct") 120 false ∷ []) ≡ ([], [])
  pub no_proposition : refuses (entry (codes "p") 120 (table []) ∷ []) ≡ Some (refusal k.WrongArity 120)
  -- p<ct> = true  p<cf> = true: the later value
  pub clash_of_values : refuses (proposition (codes "ct") 120 true ∷ proposition (codes "cf") 140 true ∷ [])
      ≡ Some (refusal k.DataClash 148)
  -- E has what occurs, in the order of the text: Q = {b}  S = {a; b}  e = d
  pub what_occurs :
      (given numbers (entry (codes "Q") 100 (table (alone (word (codes "b") 105) ∷ []))
      ∷ entry (codes "S") 110 (table (alone (word (codes "a") 115) ∷ alone (word (codes "b") 118) ∷ []))
      ∷ entry (codes "e") 125 (raw.element_value (word (codes "d") 129)) ∷ [])).domains
      ≡ [] ∷ [] ∷ (element (codes "b") ∷ element (codes "a") ∷ element (codes "d") ∷ [])
      ∷ (element (codes "a") ∷ element (codes "b") ∷ []) ∷ []
  -- E = {a}  S = true: a value of another form is no list
  pub no_list_of_subtype : refuses_all (entry (codes "E") 100 (table (alone (word (codes "a") 105) ∷ []))
      ∷ entry (codes "S") 110 (raw.truth_value true 114) ∷ []) ≡ Some (refusal k.TypeNotGiven 40)
  -- S is not given: its place is 40
  pub no_subtype_given : refuses_all (three ∷ []) ≡ Some (refusal k.TypeNotGiven 40)
  -- N = {1; a}  P = {a}: the word is refused in the list alone
  pub refused_in_list : refuses (entry (codes "P") 100 (table (alone (word (codes "a") 105) ∷ []))
      ∷ entry (codes "N") 120 (table (alone (integer 1 125) ∷ alone (word (codes "a") 128) ∷ [])) ∷ [])
      ≡ Some (refusal k.NotAnElement 128)
  -- P = {(1..2)}: brackets round one item change nothing
  pub range_in_brackets : refuses (three ∷ entry (codes "P") 120
      (table (bracketed 125 (range (integer 1 126) (integer 2 129)) [] ∷ [])) ∷ []) ≡ None
  -- N = {1..3}, and a function over N with P's comma: f = {1,2 -> 3} has a row that is too long
  pub comma_in_function : refuses (three ∷ marked (codes "f") 120 (codes "ct") 122
      (table (to (single (integer 1 128)) (single (integer 2 130) ∷ []) (integer 3 135) ∷ [])) ∷ [])
      ≡ Some (refusal k.WrongArity 128)
  -- E = {a}  S = {b}: an element of S is not in E
  pub not_above : refuses_all (entry (codes "E") 100 (table (alone (word (codes "a") 105) ∷ []))
      ∷ entry (codes "S") 110 (table (alone (word (codes "b") 115) ∷ [])) ∷ []) ≡ Some (refusal k.NotAnElement 115)
