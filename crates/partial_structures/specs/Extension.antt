-- Structures that extend what is known.
use Rattle.std.specs.Prelude.{◌≡◌, List}
use Rattle.kb_logic.specs.declared.structures.Structure.{Structure}
use Rattle.kb_logic.specs.declared.vocabularies.Symbol.{Symbol}
use Rattle.kb_logic.specs.declared.vocabularies.Vocabulary.{Vocabulary}
use Rattle.kb_logic.specs.Structures.{IsStructure}
pub use Rattle.kb_logic.specs.KnownAtoms.{ExtendsData}

-- m is a structure over a vocabulary with these symbols
abbrev pub IsStructureOver : List Symbol → Structure → Type 0
IsStructureOver symbols m = (v : Vocabulary) × (v.symbols ≡ symbols) × IsStructure v m
