-- What callers have to show of formulas.
use Rattle.std.specs.Prelude.{ℕ, List}
use Rattle.kb_logic.specs.declared.elements.Elem.{Elem}
use Rattle.kb_logic.specs.declared.vocabularies.Vocabulary.{Vocabulary}
use Rattle.kb_logic.specs.Bounds.{HasTypes, IsBounded}
use Rattle.kb_logic.specs.KnownAtoms.{KnownAtoms}
use Rattle.kb_logic.specs.Trees.{FormulaTree}
use Rattle.term_values.specs.GroundBases.{GroundBase}
use Rattle.term_values.specs.KnownBases.{base_of_data}
use Rattle.def_ground.specs.GroundForms.{IsGroundForm}
use Rattle.ground_walk.specs.Groundable.{IsGroundable, KnowsAtoms}

-- a formula whose terms have small bounds can be grounded under elements of the types of its scope
abbrev pub BoundedAreGroundable : Type 0
BoundedAreGroundable =
    (b : GroundBase) (f : FormulaTree) (scope : List ℕ) (e : List Elem) → HasTypes b.domains scope e
    → IsGroundForm b f e → IsBounded b.vocabulary b.domains f scope → IsGroundable b f e

-- data say of each ground atom whether it is known
abbrev pub DataKnowAtoms : Type 0
DataKnowAtoms = (v : Vocabulary) (k : KnownAtoms) → KnowsAtoms (base_of_data v k)
