-- Ground bases that data make, and what laws ask of them.
use Rattle.std.specs.Prelude.{◌≡◌, map, length, Bool, true, false, Option, Some, None}
use Rattle.std.specs.List.{AllByRecursion}
use Rattle.kb_logic.specs.declared.vocabularies.Vocabulary.{Vocabulary}
use Rattle.kb_logic.specs.Structures.{IsDistinct}
use Rattle.kb_logic.specs.Domains.{AreDomainsOf}
use Rattle.kb_logic.specs.Models.{IsAtomOver}
use Rattle.kb_logic.specs.KnownAtoms.{KnownAtoms, atoms_over}
use Rattle.partial_structures.specs.Consistency.{IsConsistent}
use Rattle.partial_structures.specs.KnownAtoms.{value_at}
use Rattle.partial_structures.specs.declared.truths.Truth.{Truth}
use Rattle.partial_structures.specs.declared.truths.Truth.TheVariants as truth
use Rattle.term_values.specs.GroundBases.{GroundBase}

-- a certain truth
abbrev pub known_truth : Truth → Option Bool
known_truth truth.Yes = Some true
known_truth truth.No = Some false
known_truth truth.Unknown = None

-- what the data make known of each ground atom, in the order of all atoms
abbrev pub base_of_data : Vocabulary → KnownAtoms → GroundBase
base_of_data v k = record {
  vocabulary = v;
  domains = k.domains;
  known = map (λ a. known_truth (value_at k a)) (atoms_over v.symbols k.domains);
}

-- there is a domain for each type, and no element stands in one twice
pub record IsGroundBase (b : GroundBase) : Type 0 where
  pub types : length b.domains ≡ length b.vocabulary.types
  pub distinct : AllByRecursion IsDistinct b.domains

-- the data are of the vocabulary's symbols, over domains as it asks for them, consistent, and their atoms are over the
-- domains
pub record AreDataOf (v : Vocabulary) (k : KnownAtoms) : Type 0 where
  pub symbols : k.symbols ≡ v.symbols
  pub domains : AreDomainsOf v k.domains
  pub consistent : IsConsistent k
  pub false_over : AllByRecursion (IsAtomOver k.symbols k.domains) k.false_atoms
