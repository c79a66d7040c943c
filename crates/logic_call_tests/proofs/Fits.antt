-- Formulas and terms without arithmetic meet the conditions of `truth`, `kleene` and `known_term`.
use Rattle.std.proofs.Common.{List, []}
use Rattle.kb_logic.specs.declared.elements.Elem.{Elem}
use Rattle.kb_logic.specs.declared.structures.Structure.{Structure}
use Rattle.kb_logic.specs.Trees.{TermTree, FormulaTree}
use Rattle.kb_logic.specs.Arithmetic.{ArithmeticFits, HasNoArithmetic, IsPlainTerm}
use Rattle.logic_laws.proofs.NoArithmetic.{no_arithmetic_fits}
use Rattle.partial_structures.specs.KnownAtoms.{KnownAtoms}
use Rattle.certain_truth.specs.KnownArithmetic.{CertaintyFits, ValueFits}
use Rattle.certain_truth.proofs.Plain.{plain_certainty_fits, plain_value_fits}

pub truth_fits : (m : Structure) (f : FormulaTree) → HasNoArithmetic f → ArithmeticFits m f []
truth_fits m f h = no_arithmetic_fits m f [] h

pub certainty_fits : (k : KnownAtoms) (f : FormulaTree) (e : List Elem) → HasNoArithmetic f → CertaintyFits k f e
certainty_fits = plain_certainty_fits

pub value_fits : (k : KnownAtoms) (t : TermTree) (e : List Elem) → IsPlainTerm t → ValueFits k t e
value_fits = plain_value_fits
