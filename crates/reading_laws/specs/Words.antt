-- The names in a file are words that are read and not reserved.
use Rattle.std.specs.Prelude.{◌≡◌, ◌≢◌, ℕ, List, [], false, Contains, ⊤}
use Rattle.std.specs.List.{AllByRecursion, filter_map}
use Rattle.kb_text.specs.Pieces.{WordText, IsPiece}
use Rattle.kb_text.specs.Tokens.{unsupported_words, is_word_of}
use Rattle.kb_logic.specs.declared.elements.Elem.{Elem}
use Rattle.kb_logic.specs.declared.elements.Elem.TheVariants.{Named, Num}
use Rattle.kb_logic.specs.declared.vocabularies.TypeDecl.{TypeDecl}
use Rattle.kb_logic.specs.declared.vocabularies.Vocabulary.{Vocabulary}
use Rattle.kb_logic.specs.KnownAtoms.{KnownAtoms}
use Rattle.grammar.specs.declared.terminal.Terminal.TheVariants.{Word}
use Rattle.grammar.specs.BlockTrees.{Block, Structure}
use Rattle.grammar.specs.BlockFine.{IsFile}
use Rattle.grammar.specs.BlockView.{as_vocabulary, as_structure}
use Rattle.grammar.specs.Items.{word_terminal, IsTokens}
use Rattle.grammar.specs.Terminals.{Tok}
use Rattle.stage_definitions.specs.FileTrees.{structure_of, file_of}
use Rattle.stage_definitions.specs.Names.{text_of}
use Rattle.stage_definitions.specs.Numbering.{NamedFile, IsNamed}
use Rattle.stage_definitions.specs.TypedFiles.{TypedFile}
use Rattle.stage_definitions.specs.TypesStage.{IsTyped}
use Rattle.stage_definitions.specs.DataAnswer.{IsDataOf}

-- a word that is read and is not reserved
pub record IsFreeWord (n : List ℕ) : Type 0 where
  pub spelled : IsPiece WordText n
  pub read : is_word_of unsupported_words n ≡ false
  pub free : word_terminal n ≡ Word

-- an element that is a name is such a word
abbrev pub IsSpelled : Elem → Type 0
IsSpelled (Named n) = IsFreeWord n
IsSpelled (Num z) = ⊤

-- a type's name and the names of its elements
pub record IsSpelledType (d : TypeDecl) : Type 0 where
  pub name : IsFreeWord d.name
  pub made : AllByRecursion IsFreeWord d.made

-- the names of types, of the elements of constructed types, and of symbols
pub record IsSpelledVocabulary (v : Vocabulary) : Type 0 where
  pub types : AllByRecursion IsSpelledType v.types
  pub symbols : AllByRecursion (λ s. IsFreeWord s.name) v.symbols

-- these are the blocks of a text, and the stages of names and types accept the file of them
pub record IsAccepted (bytes : List ℕ) (blocks : List Block) (typed : TypedFile) : Type 0 where
  pub tokens : List Tok
  pub len : ℕ
  pub named : NamedFile
  pub scanned : IsTokens bytes tokens
  pub parsed : IsFile tokens blocks
  pub names : IsNamed (file_of blocks len) named
  pub types : IsTyped named typed

-- the vocabulary's names are words, and so is its own name, where there is one
abbrev pub NamesAreWords : Type 0
NamesAreWords =
    (bytes : List ℕ) (blocks : List Block) (typed : TypedFile) → IsAccepted bytes blocks typed
    → IsSpelledVocabulary typed.vocabulary
    × (filter_map as_vocabulary blocks ≢ [] → IsFreeWord typed.vocabulary.name)

-- the name of each structure is a word, and so are the elements of the domains that it gives, where they are names
abbrev pub DataAreWords : Type 0
DataAreWords =
    (bytes : List ℕ) (blocks : List Block) (typed : TypedFile) → IsAccepted bytes blocks typed
    → (s : Structure) → Contains (filter_map as_structure blocks) s
    → IsFreeWord (text_of (structure_of s).name)
    × ((theory : ℕ) (answer : KnownAtoms) → IsDataOf typed theory s answer
    → AllByRecursion (AllByRecursion IsSpelled) answer.domains)
