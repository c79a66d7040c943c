-- Where weighing what is open meets no integer that does not fit.
use Rattle.std.specs.Prelude.{List, []}
use Rattle.std.specs.List.{AllByRecursion}
use Rattle.kb_logic.specs.KnownAtoms.{KnownAtoms}
use Rattle.kb_logic.specs.Structures.{choices}
use Rattle.kb_logic.specs.Trees.{TermTree, RuleTree, DefinitionTree, TheoryTree}
use Rattle.certain_truth.specs.KnownArithmetic.{CertaintyFits, ValueFits}

-- the integers that come up in the certain truth of the rule's body fit, under each assignment
abbrev pub BodyFits : KnownAtoms → RuleTree → Type 0
BodyFits k r = AllByRecursion (CertaintyFits k r.body) (choices k.domains r.vars)

-- the integers that come up in the certain truth of the theory's formulas, and in the known values of the terms, fit
pub record WeighingFits (k : KnownAtoms) (t : TheoryTree) (asked : List TermTree) : Type 0 where
  pub sentences : AllByRecursion (λ f. CertaintyFits k f []) t.sentences
  pub definitions : AllByRecursion (λ (d : DefinitionTree). AllByRecursion (BodyFits k) d.rules) t.definitions
  pub terms : AllByRecursion (λ u. ValueFits k u []) asked
