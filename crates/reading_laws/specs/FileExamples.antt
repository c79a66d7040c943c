-- Worked examples: what the structures of whole files give.
use Rattle.std.specs.Prelude.{◌≡◌, ℕ, pos, List, [], ◌∷◌, Option, None, Some, codes}
use Rattle.kb_logic.specs.declared.elements.Elem.{Elem}
use Rattle.kb_logic.specs.declared.elements.Elem.TheVariants.{Named, Num}
use Rattle.kb_logic.specs.declared.vocabularies.Parent.TheVariants as parent
use Rattle.kb_logic.specs.declared.vocabularies.Vocabulary.{Vocabulary}
use Rattle.kb_logic.specs.Models.{GroundAtom}
use Rattle.kb_text.specs.declared.fault.KbFault.{KbFault}
use Rattle.grammar.specs.BlockTrees as raw
use Rattle.reading_laws.specs.Written.{atom, known, type_under, symbol, vocabulary, word, integer, single, range}
use Rattle.reading_laws.specs.Written.{plain, to, alone, table, entry, marked, refused_beside, given}

abbrev a : Elem
a = Named (codes "a")

abbrev b : Elem
b = Named (codes "b")

abbrev number : ℕ → Elem
number n = Num (pos n)

-- a and b as rows, and the range from x to y
abbrev two_names : raw.Value
two_names = table (alone (word (codes "a") 0) ∷ alone (word (codes "b") 0) ∷ [])

abbrev from_to : ℕ → ℕ → raw.Value
from_to x y = table (plain (range (integer x 0) (integer y 0)) [] ∷ [])

-- no refusal, where all places are 0
abbrev accepted : Vocabulary → List ℕ → List raw.Entry → Option KbFault
accepted v places es = refused_beside v places [] [] es

-- ---- vocabulary V { p  q  o }, and an empty structure

abbrev three_propositions : Vocabulary
three_propositions = vocabulary [] (symbol (codes "p") [] None ∷ symbol (codes "q") [] None
    ∷ symbol (codes "o") [] None ∷ [])

-- ---- type E  P(E), and an empty structure; with c : E too

abbrev empty_type : Vocabulary
empty_type = vocabulary (type_under (codes "E") parent.Root ∷ []) (symbol (codes "P") (0 ∷ []) None
    ∷ symbol (codes "c") [] (Some 0) ∷ [])

-- ---- type Item  type Num isa nat  P(Item)  w(Item):Num, with Item = {a; b}  Num = {0..6}  w = {a->2; b->3}

abbrev items : Vocabulary
items =
    vocabulary (type_under (codes "Item") parent.Root ∷ type_under (codes "Num") parent.Nat ∷ [])
    (symbol (codes "P") (0 ∷ []) None ∷ symbol (codes "w") (0 ∷ []) (Some 1) ∷ [])

abbrev weights : List raw.Entry
weights =
    entry (codes "Item") 0 two_names
    ∷ entry (codes "Num") 0 (from_to 0 6)
    ∷ entry (codes "w") 0 (table (to (single (word (codes "a") 0)) [] (integer 2 0)
    ∷ to (single (word (codes "b") 0)) [] (integer 3 0) ∷ []))
    ∷ []

abbrev weighs : Elem → ℕ → GroundAtom
weighs x n = atom 1 (x ∷ []) (Some (number n))

-- ---- type N  P(N)  Q(N), with N = {a; b}  P = {a}

abbrev either_way : Vocabulary
either_way =
    vocabulary (type_under (codes "N") parent.Root ∷ []) (symbol (codes "P") (0 ∷ []) None
    ∷ symbol (codes "Q") (0 ∷ []) None ∷ [])

abbrev only_a : List raw.Entry
only_a = entry (codes "N") 0 two_names ∷ entry (codes "P") 0 (table (alone (word (codes "a") 0) ∷ [])) ∷ []

-- ---- type Row isa nat  type Col isa nat  queen(Row):Col, with Row = {1..4}  Col = {1..4}  queen<ct>={1->2}

abbrev queens : Vocabulary
queens = vocabulary (type_under (codes "Row") parent.Nat ∷ type_under (codes "Col") parent.Nat
    ∷ []) (symbol (codes "queen") (0 ∷ []) (Some 1) ∷ [])

abbrev first_queen : List raw.Entry
first_queen =
    entry (codes "Row") 0 (from_to 1 4)
    ∷ entry (codes "Col") 0 (from_to 1 4)
    ∷ marked (codes "queen") 0 (codes "ct") 0 (table (to (single (integer 1 0)) [] (integer 2 0) ∷ []))
    ∷ []

abbrev up_to_4 : List Elem
up_to_4 = number 1 ∷ number 2 ∷ number 3 ∷ number 4 ∷ []

abbrev queen : ℕ → GroundAtom
queen n = atom 0 (number 1 ∷ []) (Some (number n))

-- ---- type Course isa nat  Before(Course,Course), with Course = {1..3}  Before = {1,2; 2,3}

abbrev courses : Vocabulary
courses = vocabulary (type_under (codes "Course") parent.Nat ∷ []) (symbol (codes "Before") (0 ∷ 0 ∷ []) None ∷ [])

abbrev pair : ℕ → ℕ → raw.Row
pair m n = plain (single (integer m 0)) (single (integer n 0) ∷ [])

abbrev in_order : List raw.Entry
in_order = entry (codes "Course") 0 (from_to 1 3) ∷ entry (codes "Before") 0 (table (pair 1 2 ∷ pair 2 3 ∷ [])) ∷ []

abbrev before : ℕ → ℕ → GroundAtom
before m n = atom 0 (number m ∷ number n ∷ []) None

pub record FilesAreWorkedOut : Type 0 where
  -- nothing is known of what no entry speaks of
  pub propositions : given three_propositions [] ≡ known three_propositions [] [] []
  pub empty : given empty_type [] ≡ known empty_type ([] ∷ []) [] []
  pub empty_accepted : accepted empty_type (0 ∷ []) [] ≡ None
  -- a function that is given whole, beside a predicate that is not mentioned
  pub items_accepted : accepted items (0 ∷ 0 ∷ []) weights ≡ None
  pub items_given :
      given items weights
      ≡ known items ((a ∷ b ∷ []) ∷ (number 0 ∷ number 1 ∷ number 2 ∷ number 3 ∷ number 4 ∷ number 5 ∷ number 6 ∷ [])
      ∷ [])
      (weighs a 2 ∷ weighs b 3 ∷ [])
      (weighs a 0 ∷ weighs a 1 ∷ weighs a 3 ∷ weighs a 4 ∷ weighs a 5 ∷ weighs a 6 ∷ weighs b 0 ∷ weighs b 1
      ∷ weighs b 2 ∷ weighs b 4 ∷ weighs b 5 ∷ weighs b 6 ∷ [])
  -- P is two-valued, Q unknown
  pub only_a_accepted : accepted either_way (0 ∷ []) only_a ≡ None
  pub only_a_given : given either_way only_a ≡ known either_way ((a ∷ b ∷ []) ∷ []) (atom 0 (a ∷ []) None
      ∷ []) (atom 0 (b ∷ []) None ∷ [])
  -- with Q = {a} too
  pub both_given :
      given either_way (entry (codes "N") 0 two_names ∷ entry (codes "P") 0 (table (alone (word (codes "a") 0) ∷ []))
      ∷ entry (codes "Q") 0 (table (alone (word (codes "a") 0) ∷ [])) ∷ [])
      ≡ known either_way ((a ∷ b ∷ []) ∷ []) (atom 0 (a ∷ []) None ∷ atom 1 (a ∷ []) None ∷ []) (atom 0 (b ∷ []) None
      ∷ atom 1 (b ∷ []) None ∷ [])
  -- one value that is certain makes the other values false there
  pub queens_accepted : accepted queens (0 ∷ 0 ∷ []) first_queen ≡ None
  pub queens_given : given queens first_queen ≡ known queens (up_to_4 ∷ up_to_4 ∷ []) (queen 2 ∷ []) (queen 1
      ∷ queen 3 ∷ queen 4 ∷ [])
  -- tuples of integers
  pub courses_accepted : accepted courses (0 ∷ []) in_order ≡ None
  pub courses_given :
      given courses in_order
      ≡ known courses ((number 1 ∷ number 2 ∷ number 3 ∷ []) ∷ [])
      (before 1 2 ∷ before 2 3 ∷ [])
      (before 1 1 ∷ before 1 3 ∷ before 2 1 ∷ before 2 2 ∷ before 3 1 ∷ before 3 2 ∷ before 3 3 ∷ [])
