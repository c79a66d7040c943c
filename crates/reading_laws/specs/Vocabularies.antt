-- Well-formed vocabularies.
use Rattle.std.specs.Prelude.{◌≡◌, ◌≢◌, ◌<◌, ◌≤◌, ℕ, List, [], ◌++◌, map, length, flat_map, IfSome, ⊤}
use Rattle.std.specs.List.{AllByRecursion}
use Rattle.kb_logic.specs.declared.vocabularies.Parent.{Parent}
use Rattle.kb_logic.specs.declared.vocabularies.Parent.TheVariants.{Root, Int, Nat, Of}
use Rattle.kb_logic.specs.declared.vocabularies.TypeDecl.{TypeDecl}
use Rattle.kb_logic.specs.declared.vocabularies.Symbol.{Symbol}
use Rattle.kb_logic.specs.declared.vocabularies.Vocabulary.{Vocabulary}
use Rattle.kb_logic.specs.Structures.{IsDistinct}
use Rattle.stage_definitions.specs.Files.{File}
use Rattle.stage_definitions.specs.Numbering.{NamedFile, IsNamed}
use Rattle.stage_definitions.specs.TypedFiles.{TypedFile}
use Rattle.stage_definitions.specs.TypesStage.{IsTyped}

-- a type among these has a parent among them, or `int`, `nat` or none
abbrev pub IsParentAmong : List TypeDecl → Parent → Type 0
IsParentAmong types Root = ⊤
IsParentAmong types Int = ⊤
IsParentAmong types Nat = ⊤
IsParentAmong types (Of t) = t < length types

-- a type among these: its parent is one of them, it is constructed from at most 65,536 names, and then has no parent
pub record IsTypeAmong (types : List TypeDecl) (d : TypeDecl) : Type 0 where
  pub parent : IsParentAmong types d.parent
  pub few : length d.made ≤ 65536
  pub alone : d.made ≢ [] → d.parent ≡ Root

-- a symbol over these types: it takes at most eight arguments, and the types of its arguments and its value are these
pub record IsSymbolOver (types : List TypeDecl) (d : Symbol) : Type 0 where
  pub few : length d.args ≤ 8
  pub args : AllByRecursion (λ t. t < length types) d.args
  pub value : IfSome d.value (λ t. t < length types)

-- the names that a vocabulary declares: of its types, of its symbols, and of the elements of constructed types
abbrev pub names_declared : Vocabulary → List (List ℕ)
names_declared v = map (λ d. d.name) v.types ++ map (λ s. s.name) v.symbols ++ flat_map (λ d. d.made) v.types

-- at most 256 types and 1,024 symbols, each well formed, and no name is declared twice
pub record IsWellFormed (v : Vocabulary) : Type 0 where
  pub few_types : length v.types ≤ 256
  pub few_symbols : length v.symbols ≤ 1024
  pub types : AllByRecursion (IsTypeAmong v.types) v.types
  pub symbols : AllByRecursion (IsSymbolOver v.types) v.symbols
  pub names : IsDistinct (names_declared v)

-- the vocabulary of what the stages of names and types accept is well formed
abbrev pub DerivedIsWellFormed : Type 0
DerivedIsWellFormed =
    (file : File) (named : NamedFile) (typed : TypedFile) → IsNamed file named → IsTyped named typed
    → IsWellFormed typed.vocabulary
