-- Laws of the stage of data.
use Rattle.std.specs.Prelude.{ℕ, ◌≡◌, ◌↔◌, ◌⊎◌, true, false, List, None, length}
use Rattle.std.specs.List.{flat_map}
use Rattle.kb_text.specs.declared.fault.KbFault.{KbFault}
use Rattle.kb_logic.specs.declared.vocabularies.Vocabulary.{Vocabulary}
use Rattle.kb_logic.specs.Models.{GroundAtom}
use Rattle.kb_logic.specs.KnownAtoms.{KnownAtoms}
use Rattle.kb_logic.specs.Domains.{AreDomainsOf}
use Rattle.grammar.specs.BlockTrees as raw
use Rattle.stage_definitions.specs.Files.{File}
use Rattle.stage_definitions.specs.NamedTrees.{NamedTerm}
use Rattle.stage_definitions.specs.Numbering.{NamedTheoryTree, NamedFile, IsNamed}
use Rattle.stage_definitions.specs.TermPlaces.{term_begins}
use Rattle.stage_definitions.specs.TheoryItems.{items_of}
use Rattle.stage_definitions.specs.TypedTrees.{typed_block_term}
use Rattle.stage_definitions.specs.TypedFiles.{TypedFile, typed_theory, theory_begins}
use Rattle.stage_definitions.specs.TypesStage.{IsTyped}
use Rattle.stage_definitions.specs.DataEntries.{said_in}
use Rattle.stage_definitions.specs.DataFacts.{is_said_true, is_said_false}
use Rattle.stage_definitions.specs.IntegerArguments.{item_integers, term_integers}
use Rattle.stage_definitions.specs.DataStage.{EntriesRefuse, ArgumentsRefuse, StructureRefuses}
use Rattle.stage_definitions.specs.DataAnswer.{IsDataOf, IsGivenBy}

-- a refusal is one of what the structure says by itself, or one of an integer beside it
abbrev pub RefusalsAreParted : Type 0
RefusalsAreParted =
    (f : TypedFile) (theory : ℕ) (s : raw.Structure) (q : KbFault)
    → StructureRefuses f theory s q ↔ (EntriesRefuse f.vocabulary f.places.types s q ⊎ ArgumentsRefuse f theory s q)

-- what the stage of data returns is what the structure gives by itself, under the vocabulary alone
abbrev pub AcceptedIsGiven : Type 0
AcceptedIsGiven =
    (f : TypedFile) (theory : ℕ) (s : raw.Structure) (answer : KnownAtoms) → IsDataOf f theory s answer
    → IsGivenBy f.vocabulary f.places.types s answer

-- where nothing is refused, no atom is said to be true and false
abbrev pub GivenIsConsistent : Type 0
GivenIsConsistent =
    (v : Vocabulary) (places : List ℕ) (s : raw.Structure) → ((q : KbFault) → EntriesRefuse v places s q → ⊥)
    → (a : GroundAtom) → is_said_true (said_in v s) a ≡ true → is_said_false (said_in v s) a ≡ false

-- what the stages of names, types and data accept has domains as they are asked for
abbrev pub AcceptedHaveDomains : Type 0
AcceptedHaveDomains =
    (file : File) (named : NamedFile) (typed : TypedFile) → IsNamed file named → IsTyped named typed
    → (theory : ℕ) (s : raw.Structure) (answer : KnownAtoms) → IsDataOf typed theory s answer
    → AreDomainsOf typed.vocabulary answer.domains

-- ---- places

-- there is one item for each place of a term in a theory
abbrev pub TheoriesHavePlaces : Type 0
TheoriesHavePlaces =
    (v : Vocabulary) (t : NamedTheoryTree)
    → length (flat_map (item_integers v.symbols) (items_of (typed_theory v t).theory)) ≡ length (theory_begins t)

-- and for each in a term block
abbrev pub BlocksHavePlaces : Type 0
BlocksHavePlaces =
    (v : Vocabulary) (t : NamedTerm) → length (term_integers v.symbols None (typed_block_term v t))
    ≡ length (term_begins t)
