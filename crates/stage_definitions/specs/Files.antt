-- The parts of a file that the stages of blocks and names look at.
use Rattle.std.specs.Prelude.{ℕ, List, Option}
use Rattle.grammar.specs.Trees.{Name, Formula, Term}
use Rattle.grammar.specs.BlockTrees.{Rule}

-- type T [isa U] | type T constructed from { A, B } | W [(T, U)] [: V]
pub data Declaration : Type 0 where
  type_under : Name → Option Name → Declaration
  constructed_type : Name → List Name → Declaration
  symbol : Name → List Name → Option Name → Declaration

-- a sentence, or a definition by its rules
pub data Part : Type 0 where
  sentence : Formula → Part
  definition : List Rule → Part

-- a block's header: the place of its first word, its name, and the vocabulary that it names
pub record Header : Type 0 where
  pub place : ℕ
  pub name : Name
  pub of : Name

pub record VocabularyBlock : Type 0 where
  pub place : ℕ
  pub name : Name
  pub declarations : List Declaration

pub record TheoryBlock : Type 0 where
  pub header : Header
  pub parts : List Part

pub record TermBlock : Type 0 where
  pub header : Header
  pub term : Term

-- a file: its blocks of each kind, and the number of its bytes
pub record File : Type 0 where
  pub vocabularies : List VocabularyBlock
  pub theories : List TheoryBlock
  pub structures : List Header
  pub terms : List TermBlock
  pub end : ℕ
