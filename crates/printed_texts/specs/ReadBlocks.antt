-- A structure block that is printed is read back as the partial structure that was printed.
use Rattle.std.specs.Prelude.{◌≡◌, ◌≢◌, ℕ, List, [], ◌∷◌, ◌++◌, map, None, ⊤}
use Rattle.std.specs.List.{AllByRecursion}
use Rattle.kb_logic.specs.declared.elements.Elem.{Elem}
use Rattle.kb_logic.specs.declared.elements.Elem.TheVariants.{Named, Num}
use Rattle.kb_logic.specs.declared.vocabularies.TypeDecl.{TypeDecl}
use Rattle.kb_logic.specs.declared.vocabularies.Vocabulary.{Vocabulary}
use Rattle.kb_logic.specs.Structures.{IsDistinct}
use Rattle.kb_logic.specs.Domains.{AreDomainsOf}
use Rattle.kb_logic.specs.KnownAtoms.{KnownAtoms}
use Rattle.partial_structures.specs.Consistency.{IsConsistent, IsListed}
use Rattle.grammar.specs.Terminals.{Tok}
use Rattle.grammar.specs.BlockTrees.{Structure, Block, structure_block}
use Rattle.grammar.specs.BlockFine.{IsFile}
use Rattle.grammar.specs.Items.{IsTokens}
use Rattle.stage_definitions.specs.Below.{type_above}
use Rattle.stage_definitions.specs.DataAnswer.{IsGivenBy}
use Rattle.printed_texts.specs.Texts.{block_text}
use Rattle.printed_texts.specs.Names.{IsName}
use Rattle.printed_texts.specs.Saying.{name_in, of_in}

-- the names of types and symbols, which share one space
abbrev pub declared_names : Vocabulary → List (List ℕ)
declared_names v = map (λ d. d.name) v.types ++ map (λ s. s.name) v.symbols

-- a constructed type is declared under no other type
abbrev pub StandsAlone : TypeDecl → Type 0
StandsAlone d = d.made ≢ [] → type_above d.parent ≡ None

-- an element's name can be written
abbrev pub IsNamedWell : Elem → Type 0
IsNamedWell (Named n) = IsName n
IsNamedWell (Num z) = ⊤

-- what can be read back: the block's name, and a partial structure over the vocabulary, with domains as this asks
pub record IsWritable (v : Vocabulary) (title : List ℕ) (k : KnownAtoms) : Type 0 where
  pub title_word : IsName title
  pub vocabulary_word : IsName v.name
  pub words : AllByRecursion IsName (declared_names v)
  pub apart : IsDistinct (declared_names v)
  pub alone : AllByRecursion StandsAlone v.types
  pub symbols : k.symbols ≡ v.symbols
  pub domains : AreDomainsOf v k.domains
  pub elements : AllByRecursion (AllByRecursion IsNamedWell) k.domains

-- the text is that of one structure block, of this name and over this vocabulary, and of no other file; by itself the
-- block gives what was printed: none of its entries is refused, wherever the types are declared
pub record IsReadBack (v : Vocabulary) (title : List ℕ) (k : KnownAtoms) : Type 0 where
  pub tokens : List Tok
  pub scanned : IsTokens (block_text v title k) tokens
  pub tree : Structure
  pub spelled : IsFile tokens (structure_block tree ∷ [])
  pub only : (ts : List Tok) (blocks : List Block) → IsTokens (block_text v title k) ts → IsFile ts blocks
      → blocks ≡ structure_block tree ∷ []
  pub name : name_in tree ≡ title
  pub of : of_in tree ≡ v.name
  pub given : (places : List ℕ) → IsGivenBy v places tree k

abbrev pub BlocksAreReadBack : Type 0
BlocksAreReadBack =
    (v : Vocabulary) (title : List ℕ) (k : KnownAtoms) → IsWritable v title k → IsConsistent k → IsListed k
    → IsReadBack v title k

-- no two partial structures over one vocabulary have one text, nor two names
abbrev pub NoTwoHaveOneText : Type 0
NoTwoHaveOneText =
    (v : Vocabulary) (title other : List ℕ) (k j : KnownAtoms) → IsReadBack v title k → IsReadBack v other j
    → block_text v title k ≡ block_text v other j → (title ≡ other) × (k ≡ j)
