-- What the stages of reading accept can be printed, and is read back.
use Rattle.std.specs.Prelude.{◌≢◌, ℕ, List, [], Contains}
use Rattle.std.specs.List.{AllByRecursion, filter_map}
use Rattle.kb_logic.specs.declared.vocabularies.Vocabulary.{Vocabulary}
use Rattle.kb_logic.specs.KnownAtoms.{KnownAtoms}
use Rattle.kb_logic.specs.Structures.{IsDistinct}
use Rattle.partial_structures.specs.Consistency.{IsConsistent, IsListed}
use Rattle.grammar.specs.BlockTrees.{Structure, Block}
use Rattle.grammar.specs.BlockView.{as_vocabulary, as_structure}
use Rattle.stage_definitions.specs.DataAnswer.{IsGivenBy, IsDataOf}
use Rattle.stage_definitions.specs.FileTrees.{structure_of}
use Rattle.stage_definitions.specs.Names.{text_of}
use Rattle.stage_definitions.specs.TypedFiles.{TypedFile}
use Rattle.reading_laws.specs.Words.{IsAccepted}
use Rattle.printed_texts.specs.ReadBlocks.{IsWritable, IsReadBack}

-- what a structure gives by itself is consistent, and listed as a partial structure lists what it knows
abbrev pub AcceptedAreListed : Type 0
AcceptedAreListed =
    (v : Vocabulary) (places : List ℕ) (s : Structure) (k : KnownAtoms) → IsGivenBy v places s k
    → AllByRecursion IsDistinct k.domains → IsConsistent k × IsListed k

-- s is a structure of an accepted file with a vocabulary, and the stage of data accepts it and returns k
pub record IsAcceptedData (bytes : List ℕ) (blocks : List Block) (typed : TypedFile) (s : Structure)
    (k : KnownAtoms) : Type 0 where
  pub file : IsAccepted bytes blocks typed
  pub vocabulary : filter_map as_vocabulary blocks ≢ []
  pub structure : Contains (filter_map as_structure blocks) s
  pub theory : ℕ
  pub given : IsDataOf typed theory s k

-- its names are words that are read and not reserved, no two are the same, and its domains are as the vocabulary asks
abbrev pub AcceptedAreWritable : Type 0
AcceptedAreWritable =
    (bytes : List ℕ) (blocks : List Block) (typed : TypedFile) (s : Structure) (k : KnownAtoms)
    → IsAcceptedData bytes blocks typed s k → IsWritable typed.vocabulary (text_of (structure_of s).name) k

-- its printed block is read back as what it gives, and no other file has the text
abbrev pub AcceptedAreReadBack : Type 0
AcceptedAreReadBack =
    (bytes : List ℕ) (blocks : List Block) (typed : TypedFile) (s : Structure) (k : KnownAtoms)
    → IsAcceptedData bytes blocks typed s k → IsReadBack typed.vocabulary (text_of (structure_of s).name) k
