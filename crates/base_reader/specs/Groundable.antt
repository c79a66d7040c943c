-- Laws of the knowledge base that a file and its data are, where the stages of reading accept them.
use Rattle.std.specs.Prelude.{ℕ, []}
use Rattle.std.specs.List.{AllByRecursion}
use Rattle.kb_logic.specs.Bases.{Base}
use Rattle.kb_logic.specs.Bounds.{TheoryIsBounded, TermIsBounded}
use Rattle.kb_logic.specs.KnownAtoms.{KnownAtoms}
use Rattle.grammar.specs.BlockTrees as raw
use Rattle.stage_definitions.specs.Files.{File}
use Rattle.stage_definitions.specs.Numbering.{NamedFile, IsNamed}
use Rattle.stage_definitions.specs.FileBases.{base_of_file}
use Rattle.stage_definitions.specs.TypedFiles.{TypedFile}
use Rattle.stage_definitions.specs.TypesStage.{IsTyped}
use Rattle.stage_definitions.specs.DataAnswer.{IsDataOf}
use Rattle.stage_definitions.specs.SizesStage.{Sizes, AreSizesOf}
use Rattle.def_ground.specs.Groundings.{IsGroundTheory}

-- what the stages of names, types and data accept can be grounded
abbrev pub AcceptedCanBeGrounded : Type 0
AcceptedCanBeGrounded =
    (file : File) (named : NamedFile) (typed : TypedFile) → IsNamed file named → IsTyped named typed
    → (theory : ℕ) (s : raw.Structure) (answer : KnownAtoms) → IsDataOf typed theory s answer
    → IsGroundTheory (base_of_file typed theory answer)

-- the static bounds of each term are small, in the theory and in each term that may be asked for
pub record IsBoundedBase (base : Base) : Type 0 where
  pub theory : TheoryIsBounded base.vocabulary base.known.domains base.theory
  pub terms : AllByRecursion (λ t. TermIsBounded base.vocabulary base.known.domains t.term []) base.terms

-- what the stage of sizes accepts as well is bounded
abbrev pub AcceptedIsBounded : Type 0
AcceptedIsBounded =
    (named : NamedFile) (typed : TypedFile) → IsTyped named typed → (theory : ℕ) (known : KnownAtoms) (sizes : Sizes)
    → AreSizesOf typed theory known.domains sizes → IsBoundedBase (base_of_file typed theory known)
