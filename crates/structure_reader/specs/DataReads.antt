-- What reading a structure returns.
use Rattle.std.specs.Prelude.{◌≡◌, ◌⊎◌, ℕ, List, ⊤}
use Rattle.kb_text.specs.declared.fault.KbFault.{KbFault}
use Rattle.kb_logic.specs.KnownAtoms.{KnownAtoms}
use Rattle.grammar.specs.BlockTrees as raw
use Rattle.grammar.specs.declared.error.KbError.{KbError}
use Rattle.grammar.specs.declared.error.KbError.TheVariants.{Refused, Memory}
use Rattle.stage_definitions.specs.DataAnswer.{IsDataOf}
use Rattle.stage_definitions.specs.DataEntries.{Said, said_in}
use Rattle.stage_definitions.specs.DataStage.{StructureRefuses}
use Rattle.stage_definitions.specs.Earliest.{IsEarliest}
use Rattle.stage_definitions.specs.SizesStage.{Sizes, AreSizesOf, SizesRefuse, size_uses}
use Rattle.stage_definitions.specs.TypedFiles.{TypedFile}
use Rattle.data_domains.specs.TypeSets.{AreTypesOf}
use Rattle.data_domains.specs.declared.types.TypeData.{TypeData}

-- there was no memory, or the refusal is the earliest one of the stage of data
abbrev pub DataFailsWith : TypedFile → ℕ → raw.Structure → KbError → Type 0
DataFailsWith f theory s Memory = ⊤
DataFailsWith f theory s (Refused r) = IsEarliest (StructureRefuses f theory s) r

-- there was no memory, or the refusal is the earliest one of the stage of data or, where that refuses nothing, of the
-- stage of sizes
abbrev pub DataOrSizesFail : TypedFile → ℕ → raw.Structure → KbError → Type 0
DataOrSizesFail f theory s Memory = ⊤
DataOrSizesFail f theory s (Refused q) =
    IsEarliest (StructureRefuses f theory s) q
    ⊎ ((known : KnownAtoms) × IsDataOf f theory s known
    × IsEarliest (SizesRefuse (size_uses f theory known.domains)) q)

-- these are the data of the structure, and these their sizes, of which none is refused
pub record IsMeasuredData (f : TypedFile) (theory : ℕ) (s : raw.Structure) (known : KnownAtoms) (sizes : Sizes)
    : Type 0 where
  pub given : IsDataOf f theory s known
  pub sized : AreSizesOf f theory known.domains sizes

-- nothing of the structure is refused; it says this, and these are the types with the elements that it gives them
pub record IsAccepted (f : TypedFile) (theory : ℕ) (s : raw.Structure) (es : List Said) (types : List TypeData)
    : Type 0 where
  pub accepted : (q : KbFault) → StructureRefuses f theory s q → ⊥
  pub said : es ≡ said_in f.vocabulary s
  pub types_are : AreTypesOf f.vocabulary.types es types
