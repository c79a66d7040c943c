-- The trees of blocks: one type a nonterminal, with the place of every token. A pair of a place and a part is a sign
-- and what follows it.
use Rattle.std.specs.Prelude.{ℕ, List, Option, Bool}
use Rattle.grammar.specs.declared.raw_blocks.Separator.{Separator}
use Rattle.grammar.specs.Trees.{Name, Vars, Formula, Term, App}

-- W { "," W }
pub data Names : Type 0 where
  names : Name → List (ℕ × Name) → Names

-- "(" [ W { "," W } ] ")"
pub data Positions : Type 0 where
  positions : ℕ → Option Names → ℕ → Positions

-- "type" W [ "isa" W ] | "type" W "constructed" "from" "{" W { sep W } "}" | W [ "(" [ W { "," W } ] ")" ] [ ":" W ]
pub data Declaration : Type 0 where
  type_of : ℕ → Name → Option (ℕ × Name) → Declaration
  constructed : ℕ → Name → ℕ → ℕ → ℕ → Name → List (Separator × ℕ × Name) → ℕ → Declaration
  symbol : Name → Option Positions → Option (ℕ × Name) → Declaration

-- "vocabulary" W "{" { decl } "}"
pub data Vocabulary : Type 0 where
  vocabulary : ℕ → Name → ℕ → List Declaration → ℕ → Vocabulary

-- a block's word, W ":" W "{"
pub data Header : Type 0 where
  header : ℕ → Name → ℕ → Name → ℕ → Header

-- "!" vars ":"
pub data Binding : Type 0 where
  binding : ℕ → Vars → ℕ → Binding

-- head = app | app "=" term
pub data Head : Type 0 where
  atom_head : App → Head
  value_head : App → ℕ → Term → Head

-- rule = { "!" vars ":" } head [ "<-" [ formula ] ] "."
pub data Rule : Type 0 where
  rule : List Binding → Head → Option (ℕ × Option Formula) → ℕ → Rule

-- formula "." | "{" { rule } "}"
pub data TheoryItem : Type 0 where
  sentence : Formula → ℕ → TheoryItem
  definition : ℕ → List Rule → ℕ → TheoryItem

-- theory = "theory" W ":" W "{" { formula "." | "{" { rule } "}" } "}"
pub data Theory : Type 0 where
  theory : Header → List TheoryItem → ℕ → Theory

-- termblock = "term" W ":" W "{" term [ "." ] "}"
pub data TermBlock : Type 0 where
  term_block : Header → Term → Option ℕ → ℕ → TermBlock

-- element = W | I | "-" I
pub data Element : Type 0 where
  named : Name → Element
  number : ℕ → ℕ → Element
  below_zero : ℕ → ℕ → ℕ → Element

-- item = element [ ".." element ]
pub data RowItem : Type 0 where
  item : Element → Option (ℕ × Element) → RowItem

-- items = item { "," item }
pub data RowItems : Type 0 where
  items : RowItem → List (ℕ × RowItem) → RowItems

-- row = items [ "->" element ] | "(" items ")" [ "->" element ] | "->" element
pub data Row : Type 0 where
  plain : RowItems → Option (ℕ × Element) → Row
  bracketed : ℕ → RowItems → ℕ → Option (ℕ × Element) → Row
  only : ℕ × Element → Row

-- row { ";" row } [ ";" ]
pub data Rows : Type 0 where
  rows : Row → List (ℕ × Row) → Option ℕ → Rows

-- value = "true" | "false" | element | "{" [ row { ";" row } [ ";" ] ] "}"
pub data Value : Type 0 where
  truth_value : Bool → ℕ → Value
  element_value : Element → Value
  table : ℕ → Option Rows → ℕ → Value

-- "<" W ">", or "<" W before a ">=" that stands for ">" and "="
pub data Mark : Type 0 where
  closed_mark : ℕ → Name → ℕ → Mark
  open_mark : ℕ → Name → Mark

-- entry = W [ "<" W ">" ] "=" value
pub data Entry : Type 0 where
  entry : Name → Option Mark → ℕ → Value → Entry

-- structure = "structure" W ":" W "{" { entry } "}"
pub data Structure : Type 0 where
  structure : Header → List Entry → ℕ → Structure

-- vocabulary | theory | structure | termblock | Procedure
pub data Block : Type 0 where
  vocabulary_block : Vocabulary → Block
  theory_block : Theory → Block
  structure_block : Structure → Block
  value_block : TermBlock → Block
  procedure : ℕ → Block
