-- What the bytes of a file mean, and why they are refused: by the first stage that refuses something, and at last by
-- what the narrowed data leave open.
use Rattle.std.specs.Prelude.{◌≡◌, ℕ, List, length, Option, Some, Ok, Err, slice_get, unwrap_or}
use Rattle.std.specs.List.{filter_map}
use Rattle.kb_text.specs.declared.fault.K.TheVariants as k
use Rattle.kb_text.specs.declared.fault.KbFault.{KbFault}
use Rattle.kb_logic.specs.Bases.{Base}
use Rattle.kb_logic.specs.KnownAtoms.{KnownAtoms}
use Rattle.grammar.specs.BlockTrees as raw
use Rattle.grammar.specs.BlockTrees.{Block}
use Rattle.grammar.specs.BlockView.{as_structure}
use Rattle.grammar.specs.FileReads.{KbReads}
use Rattle.stage_definitions.specs.FileBases.{base_of_file}
use Rattle.stage_definitions.specs.Scopes.{Text}
use Rattle.stage_definitions.specs.Earliest.{IsEarliest, refusal}
use Rattle.stage_definitions.specs.FileTrees.{file_of, structure_of}
use Rattle.stage_definitions.specs.Names.{text_of}
use Rattle.stage_definitions.specs.BlocksStage.{block_uses, BlocksRefuse, IsPicked}
use Rattle.stage_definitions.specs.NamesStage.{NamesRefuse}
use Rattle.stage_definitions.specs.Numbering.{IsNamed, NamedFile}
use Rattle.stage_definitions.specs.TypesStage.{TypesRefuse, IsTyped}
use Rattle.stage_definitions.specs.TypedFiles.{TypedFile}
use Rattle.stage_definitions.specs.DataStage.{StructureRefuses}
use Rattle.stage_definitions.specs.DataAnswer.{IsDataOf}
use Rattle.stage_definitions.specs.SizesStage.{SizesRefuse, size_uses}
use Rattle.narrowed_bases.specs.Narrowings.{IsHeavy, IsLight}

-- the names of the theory and of the structure that are chosen, where they are named
pub record Choice : Type 0 where
  pub theory : Option Text
  pub structure : Option Text

-- a file with the types of its variables, the number of the chosen theory, and the chosen structure as it is written
pub record Picked : Type 0 where
  pub file : TypedFile
  pub theory : ℕ
  pub structure : raw.Structure

-- what a file means: its vocabulary, theories and terms, the number of the chosen theory, the name of the chosen
-- structure, and what that structure makes known
pub record Meaning : Type 0 where
  pub file : TypedFile
  pub theory : ℕ
  pub structure : Text
  pub known : KnownAtoms

-- the stages of the text and of blocks accept: the bytes are these blocks, and of them the theory and the structure
-- with these numbers are chosen
pub record HasBlocks (c : Choice) (bytes : List ℕ) (blocks : List Block) (theory structure : ℕ) : Type 0 where
  pub read : KbReads bytes (Ok blocks)
  pub picked : IsPicked (file_of blocks (length bytes)) c.theory c.structure theory structure

-- the stage of names accepts too
pub record HasNames (c : Choice) (bytes : List ℕ) (blocks : List Block) (theory structure : ℕ)
    (named : NamedFile) : Type 0 where
  pub has : HasBlocks c bytes blocks theory structure
  pub is : IsNamed (file_of blocks (length bytes)) named

-- and so does the stage of types
pub record HasTypes (c : Choice) (bytes : List ℕ) (p : Picked) : Type 0 where
  pub blocks : List Block
  pub number : ℕ
  pub named : NamedFile
  pub names : HasNames c bytes blocks p.theory number named
  pub typed : IsTyped named p.file
  pub structure : slice_get (filter_map as_structure blocks) number ≡ Some p.structure

-- the name of a structure
abbrev pub structure_name : raw.Structure → Text
structure_name s = text_of (structure_of s).name

-- no size is refused over these domains
abbrev pub HasSizes : TypedFile → ℕ → KnownAtoms → Type 0
HasSizes f theory known = (q : KbFault) → SizesRefuse (size_uses f theory known.domains) q → ⊥

-- where the first word of the theory with this number stands
abbrev pub first_word : TypedFile → ℕ → ℕ
first_word f theory = unwrap_or (slice_get f.places.theories theory) 0

-- what the narrowed data leave open weighs too much: that is said of the theory's first word
abbrev pub OpenRefuses : TypedFile → ℕ → KnownAtoms → KbFault → Type 0
OpenRefuses f theory known q = IsHeavy (base_of_file f theory known) × (q ≡ refusal k.TooLarge (first_word f theory))

-- the bytes mean this: no stage refuses anything, nor does what is left open
pub record FileMeans (c : Choice) (bytes : List ℕ) (m : Meaning) : Type 0 where
  pub structure : raw.Structure
  pub typed : HasTypes c bytes (record { file = m.file; theory = m.theory; structure = structure })
  pub name : m.structure ≡ structure_name structure
  pub given : IsDataOf m.file m.theory structure m.known
  pub sized : HasSizes m.file m.theory m.known
  pub light : IsLight (base_of_file m.file m.theory m.known)

-- the first stage that refuses something has this refusal, and none before it; or none does, and it is that of what is
-- left open
pub data IsRefused (c : Choice) (bytes : List ℕ) : KbFault → Type 0 where
  -- the length, the tokens or the grammar
  text : (q : KbFault) → KbReads bytes (Err q) → IsRefused c bytes q
  blocks : (bs : List Block) → (q : KbFault) → KbReads bytes (Ok bs)
      → IsEarliest (BlocksRefuse (block_uses (file_of bs (length bytes)) c.theory c.structure)) q
      → IsRefused c bytes q
  names : (bs : List Block) → (theory structure : ℕ) → (q : KbFault) → HasBlocks c bytes bs theory structure
      → IsEarliest (NamesRefuse (file_of bs (length bytes))) q
      → IsRefused c bytes q
  types : (bs : List Block) → (theory structure : ℕ) → (named : NamedFile) → (q : KbFault)
      → HasNames c bytes bs theory structure named
      → IsEarliest (TypesRefuse named) q
      → IsRefused c bytes q
  entries : (p : Picked) → (q : KbFault) → HasTypes c bytes p
      → IsEarliest (StructureRefuses p.file p.theory p.structure) q
      → IsRefused c bytes q
  sizes : (p : Picked) → (known : KnownAtoms) → (q : KbFault) → HasTypes c bytes p
      → IsDataOf p.file p.theory p.structure known
      → IsEarliest (SizesRefuse (size_uses p.file p.theory known.domains)) q
      → IsRefused c bytes q
  -- what is left open is looked at where no stage refuses anything
  left_open : (p : Picked) → (known : KnownAtoms) → (q : KbFault) → HasTypes c bytes p
      → IsDataOf p.file p.theory p.structure known
      → HasSizes p.file p.theory known
      → OpenRefuses p.file p.theory known q
      → IsRefused c bytes q

-- the knowledge base that a file means
abbrev pub base_of_meaning : Meaning → Base
base_of_meaning m = base_of_file m.file m.theory m.known
