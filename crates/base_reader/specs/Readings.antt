-- What reading a knowledge base returns, and what its steps do.
use Rattle.std.specs.Prelude.{◌≡◌, ◌⊎◌, List, ℕ, length, Option, ⊤}
use Rattle.std.specs.Borrow.{Bor}
use Rattle.kb_logic.specs.KnownAtoms.{KnownAtoms}
use Rattle.grammar.specs.BlockTrees as raw
use Rattle.grammar.specs.BlockTrees.{Block}
use Rattle.grammar.specs.BlockView.{IsKb}
use Rattle.grammar.specs.BlockView.{structure_view}
use Rattle.grammar.specs.declared.raw_blocks.RawKb.{RawKb}
use Rattle.grammar.specs.declared.raw_blocks.RawStructure.{RawStructure}
use Rattle.grammar.specs.declared.error.KbError.{KbError}
use Rattle.grammar.specs.declared.error.KbError.TheVariants.{Refused, Memory}
use Rattle.block_choice.specs.Choices.{word_given}
use Rattle.stage_definitions.specs.DataAnswer.{IsDataOf}
use Rattle.stage_definitions.specs.Earliest.{IsEarliest}
use Rattle.stage_definitions.specs.FileBases.{base_of_file}
use Rattle.stage_definitions.specs.Files.{File}
use Rattle.stage_definitions.specs.NamesStage.{NamesRefuse}
use Rattle.stage_definitions.specs.Numbering.{IsNamed, NamedFile}
use Rattle.stage_definitions.specs.TypesStage.{TypesRefuse, IsTyped}
use Rattle.stage_definitions.specs.TypedFiles.{TypedFile}
use Rattle.type_derivation.specs.TypedViews.{typed_view}
use Rattle.type_derivation.specs.declared.typed.TypedKb.{TypedKb}
use Rattle.structure_reader.specs.DataReads.{DataOrSizesFail}
use Rattle.def_ground.specs.Groundings.{IsGroundTheory}
use Rattle.base_reader.specs.Groundable.{IsBoundedBase}
use Rattle.narrowed_bases.specs.Narrowings.{IsNarrowing, IsLight}
use Rattle.narrowed_bases.specs.declared.narrowings.Narrowing.{Narrowing}
use Rattle.consult_base.specs.Opened.{Opened}
use Rattle.base_reader.specs.FileMeanings.{Choice, Meaning, HasBlocks, HasSizes, IsRefused, OpenRefuses}

-- the names that are given
abbrev pub choice : Option (Bor (List ℕ)) → Option (Bor (List ℕ)) → Choice
choice theory structure = record { theory = word_given theory; structure = word_given structure }

-- a knowledge base as what a file means
abbrev pub meaning_of : Opened → Meaning
meaning_of k = record { file = typed_view k.typed; theory = k.theory; structure = k.structure; known = k.known }

-- the bytes are refused so, or there was no memory
abbrev pub FailsWith : Choice → List ℕ → KbError → Type 0
FailsWith c bytes Memory = ⊤
FailsWith c bytes (Refused q) = IsRefused c bytes q

-- the raw file has the blocks of the bytes, of which the theory and the structure with these numbers are chosen
pub record AreBlocksOf (c : Choice) (bytes : List ℕ) (kb : RawKb) (theory structure : ℕ) : Type 0 where
  pub blocks : List Block
  pub has : HasBlocks c bytes blocks theory structure
  pub is : IsKb blocks (length bytes) kb

-- the file has these types
abbrev pub HasTypedFile : File → TypedFile → Type 0
HasTypedFile f typed = (named : NamedFile) × IsNamed f named × IsTyped named typed

-- the stage of names or that of types refuses the file
abbrev pub NamesOrTypes : File → KbError → Type 0
NamesOrTypes f Memory = ⊤
NamesOrTypes f (Refused q) =
    IsEarliest (NamesRefuse f) q ⊎ ((named : NamedFile) × IsNamed f named × IsEarliest (TypesRefuse named) q)

-- these are the data of the structure, of which nothing is refused and all terms are bounded, and this is what they are
-- narrowed to, which is light
pub record AreNarrowedData (f : TypedFile) (theory : ℕ) (s : raw.Structure) (known : KnownAtoms) (n : Narrowing)
    : Type 0 where
  pub given : IsDataOf f theory s known
  pub sized : HasSizes f theory known
  pub ground : IsGroundTheory (base_of_file f theory known)
  pub bounded : IsBoundedBase (base_of_file f theory known)
  pub narrowing : IsNarrowing (base_of_file f theory known) n
  pub light : IsLight (base_of_file f theory known)

-- what these data leave open is refused, or there was no memory
abbrev pub OpenFails : TypedFile → ℕ → KnownAtoms → KbError → Type 0
OpenFails f theory known Memory = ⊤
OpenFails f theory known (Refused q) = OpenRefuses f theory known q

-- the stage of data or that of sizes refuses the structure, or where they do not, what it leaves open is refused
abbrev pub DataFail : TypedFile → ℕ → raw.Structure → KbError → Type 0
DataFail f theory s Memory = ⊤
DataFail f theory s (Refused q) =
    DataOrSizesFail f theory s (Refused q)
    ⊎ ((known : KnownAtoms) × IsDataOf f theory s known × HasSizes f theory known × OpenRefuses f theory known q)

-- what is opened is the file with the theory of this number, and the data of the structure under its name
pub record IsOpenedOn (kb : TypedKb) (theory : ℕ) (s : RawStructure) (opened : Opened) : Type 0 where
  pub typed : opened.typed ≡ kb
  pub theory_is : opened.theory ≡ theory
  pub named : opened.structure ≡ s.header.name.text
  pub known : AreNarrowedData (typed_view kb) theory (structure_view s) opened.known opened.narrowing
