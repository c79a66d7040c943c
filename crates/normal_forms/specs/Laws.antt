-- What normal forms are, in the subject's own words.
use Rattle.std.specs.Prelude.{◌≡◌, List, true}
use Rattle.kb_logic.specs.declared.elements.Elem.{Elem}
use Rattle.kb_logic.specs.declared.structures.Structure.{Structure}
use Rattle.kb_logic.specs.Trees.{FormulaTree}
use Rattle.kb_logic.specs.Meaning.{truth_of}
use Rattle.normal_forms.specs.NormalForms.{normal_form, IsNormal}

-- a formula and its normal form have one truth in every structure
abbrev pub NormalFormIsTrue : Type 0
NormalFormIsTrue = (m : Structure) (f : FormulaTree) (e : List Elem) → truth_of m (normal_form true f) e
    ≡ truth_of m f e

-- a normal form is one
abbrev pub NormalFormIsNormal : Type 0
NormalFormIsNormal = (f : FormulaTree) → IsNormal (normal_form true f)
