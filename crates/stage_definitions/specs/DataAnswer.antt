-- What the stage of data returns where it refuses nothing: the domains, and what is known of each atom over them.
use Rattle.std.specs.Prelude.{ℕ, ◌≡◌, List, filter}
use Rattle.kb_text.specs.declared.fault.KbFault.{KbFault}
use Rattle.kb_logic.specs.declared.elements.Elem.{Elem}
use Rattle.kb_logic.specs.declared.vocabularies.Symbol.{Symbol}
use Rattle.kb_logic.specs.declared.vocabularies.Vocabulary.{Vocabulary}
use Rattle.kb_logic.specs.KnownAtoms.{KnownAtoms, atoms_over}
use Rattle.grammar.specs.BlockTrees as raw
use Rattle.stage_definitions.specs.TypedFiles.{TypedFile}
use Rattle.stage_definitions.specs.DataEntries.{Said, said_in}
use Rattle.stage_definitions.specs.DataDomains.{domains_of}
use Rattle.stage_definitions.specs.DataFacts.{is_said_true, is_said_false}
use Rattle.stage_definitions.specs.DataStage.{EntriesRefuse, StructureRefuses}

-- what is known of the atoms over these domains, as entries say
abbrev pub known_over : List Symbol → List Said → List (List Elem) → KnownAtoms
known_over symbols es domains = record {
  symbols = symbols;
  domains = domains;
  true_atoms = filter (is_said_true es) (atoms_over symbols domains);
  false_atoms = filter (is_said_false es) (atoms_over symbols domains);
}

-- what entries give
abbrev pub given_by : Vocabulary → List Said → KnownAtoms
given_by v es = known_over v.symbols es (domains_of v.types es)

-- what the structure s gives by itself, where none of its entries is refused; the types' names stand at these places
pub record IsGivenBy (v : Vocabulary) (places : List ℕ) (s : raw.Structure) (answer : KnownAtoms) : Type 0 where
  pub accepted : (q : KbFault) → EntriesRefuse v places s q → ⊥
  pub given : answer ≡ given_by v (said_in v s)

-- what the stage of data returns where it refuses nothing of the structure s, nor of the integers beside it
pub record IsDataOf (f : TypedFile) (theory : ℕ) (s : raw.Structure) (answer : KnownAtoms) : Type 0 where
  pub accepted : (q : KbFault) → StructureRefuses f theory s q → ⊥
  pub given : answer ≡ given_by f.vocabulary (said_in f.vocabulary s)
