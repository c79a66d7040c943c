-- What one walk finds of a formula: what is certain of it, and its open occurrences.
use Rattle.std.specs.Prelude.{◌≡◌, Bool, true, false, List}
use Rattle.kb_logic.specs.declared.elements.Elem.{Elem}
use Rattle.kb_logic.specs.declared.vocabularies.Vocabulary.{Vocabulary}
use Rattle.kb_logic.specs.KnownAtoms.{KnownAtoms}
use Rattle.kb_logic.specs.Trees.{FormulaTree}
use Rattle.partial_structures.specs.declared.truths.Truth.{Truth}
use Rattle.certain_truth.specs.Certainty.{certain_truth}
use Rattle.certain_truth.specs.Evaluation.{settles}
use Rattle.stage_definitions.specs.SizesStage.{capped}
use Rattle.open_sizes.specs.OpenWeights.{open_occurrences}
use Rattle.open_sizes.specs.declared.connectives.Joining.{Joining}
use Rattle.open_sizes.specs.declared.connectives.Joining.TheVariants.{Conjunction, Disjunction, Survey}
use Rattle.open_sizes.specs.declared.weighed.Weighed.{Weighed}

-- what is certain of the formula, and its open occurrences
pub record IsWeighed (v : Vocabulary) (k : KnownAtoms) (f : FormulaTree) (e : List Elem) (w : Weighed) : Type 0 where
  pub truth : w.truth ≡ certain_truth k f e
  pub count : w.count ≡ capped (open_occurrences v k f e)

abbrev pub is_all : Joining → Bool
is_all Conjunction = true
is_all Disjunction = false
is_all Survey = false

-- whether no more is looked at after what is certain of some
abbrev pub is_over : Joining → Truth → Bool
is_over Conjunction t = settles true t
is_over Disjunction t = settles false t
is_over Survey t = false
