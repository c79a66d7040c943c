-- The integers that come up where the certain truth of a formula is sought fit 64 bits.
use Rattle.std.specs.Prelude.{List, [], ◌∷◌, ◌++◌, Option, None, Some, IfSome, FitsSigned, pos, ⊤}
use Rattle.std.specs.Int.{w64}
use Rattle.std.specs.List.{AllByRecursion}
use Rattle.std.specs.Option.{option_map}
use Rattle.kb_logic.specs.declared.elements.Elem.{Elem}
use Rattle.kb_logic.specs.declared.syntax.AggKind.{AggKind}
use Rattle.kb_logic.specs.Trees.{TermTree, variable, integer, constructed, application, summation, product, aggregate}
use Rattle.kb_logic.specs.Trees.{TermTrees, no_terms, more_terms, SummandTrees, no_summands, more_summands, FormulaTree}
use Rattle.kb_logic.specs.Trees.{verum, falsum, atom, comparison, negation, conjunction, disjunction, implication}
use Rattle.kb_logic.specs.Trees.{equivalence, universal, existential, numbered, FormulaTrees, no_formulas}
use Rattle.kb_logic.specs.Trees.{more_formulas}
use Rattle.kb_logic.specs.Structures.{choices}
use Rattle.kb_logic.specs.Denotations.{Denotation, as_number}
use Rattle.kb_logic.specs.Arithmetic.{start, combined, NumberFits, ProductFits, HasNoArithmetic}
use Rattle.partial_structures.specs.KnownAtoms.{KnownAtoms}
use Rattle.certain_truth.specs.Certainty.{known_value, known_sum, certain_truth}
use Rattle.partial_structures.specs.declared.truths.Truth.{Truth}
use Rattle.partial_structures.specs.declared.truths.Truth.TheVariants as truth

-- an aggregate with one assignment more, by what is known of its condition and its weight
abbrev pub gathered : AggKind → Option Denotation → Truth → Option Denotation → Option Denotation
gathered kind None t v = None
gathered kind (Some d) truth.No v = Some d
gathered kind (Some d) truth.Unknown v = None
gathered kind (Some d) truth.Yes None = None
gathered kind (Some d) truth.Yes (Some w) = Some (combined kind d w)

-- the aggregate fits after each assignment up to which it is known
abbrev pub GatheredFits : {X : Type 0} → AggKind → (X → Truth) → (X → Option Denotation) → Option Denotation
    → List X → Type 0
GatheredFits kind P V acc [] = ⊤
GatheredFits kind P V acc (x ∷ xs) = IfSome (gathered kind acc (P x) (V x)) NumberFits × GatheredFits kind P V
    (gathered kind acc (P x) (V x)) xs

-- the values of terms up to the first that is not known
abbrev pub known_front : KnownAtoms → TermTrees → List Elem → List Denotation
known_front k no_terms e = []
known_front k (more_terms t ts) e = elim (known_value k t e) [ None ↦ [] | Some v ↦ v ∷ known_front k ts e ]

abbrev mutual
  -- the integers that come up in the known value of the term
  pub ValueFits : KnownAtoms → TermTree → List Elem → Type 0
  ValueFits k (variable n) e = ⊤
  ValueFits k (integer z) e = ⊤
  ValueFits k (constructed ty n) e = ⊤
  ValueFits k (product ts) e = ValuesFit k ts e × ProductFits (pos 1) (known_front k ts e)
  ValueFits k (application s ts) e = ValuesFit k ts e
  ValueFits k (summation ss) e = IfSome (known_sum k ss e) (λ o. IfSome o (λ z. FitsSigned w64 z)) × OperandsFit k ss e
  ValueFits k (aggregate kind bs f t) e =
      AllByRecursion (λ a. CertaintyFits k f (e ++ a) × ValueFits k t (e ++ a)) (choices k.domains bs)
      × GatheredFits kind (λ a. certain_truth k f (e ++ a)) (λ a. option_map as_number (known_value k t (e ++ a)))
      (Some (start kind)) (choices k.domains bs)

  pub ValuesFit : KnownAtoms → TermTrees → List Elem → Type 0
  ValuesFit k no_terms e = ⊤
  ValuesFit k (more_terms t ts) e = ValueFits k t e × ValuesFit k ts e

  pub OperandsFit : KnownAtoms → SummandTrees → List Elem → Type 0
  OperandsFit k no_summands e = ⊤
  OperandsFit k (more_summands minus t ss) e = ValueFits k t e × OperandsFit k ss e

  -- the integers that come up in the certain truth of the formula
  pub CertaintyFits : KnownAtoms → FormulaTree → List Elem → Type 0
  CertaintyFits k verum e = ⊤
  CertaintyFits k falsum e = ⊤
  CertaintyFits k (disjunction fs) e = PartsFit k fs e
  CertaintyFits k (implication f g) e = CertaintyFits k f e × CertaintyFits k g e
  CertaintyFits k (equivalence f g) e = CertaintyFits k f e × CertaintyFits k g e
  CertaintyFits k (existential bs f) e = AllByRecursion (λ a. CertaintyFits k f (e ++ a)) (choices k.domains bs)
  CertaintyFits k (atom s ts) e = ValuesFit k ts e
  CertaintyFits k (comparison c a b) e = ValueFits k a e × ValueFits k b e
  CertaintyFits k (negation f) e = CertaintyFits k f e
  CertaintyFits k (conjunction fs) e = PartsFit k fs e
  CertaintyFits k (universal bs f) e = AllByRecursion (λ a. CertaintyFits k f (e ++ a)) (choices k.domains bs)
  CertaintyFits k (numbered c n bs f) e = AllByRecursion (λ a. CertaintyFits k f (e ++ a)) (choices k.domains bs)

  pub PartsFit : KnownAtoms → FormulaTrees → List Elem → Type 0
  PartsFit k no_formulas e = ⊤
  PartsFit k (more_formulas f fs) e = CertaintyFits k f e × PartsFit k fs e

-- a formula without arithmetic meets the condition whatever is known
abbrev pub NoArithmeticFits : Type 0
NoArithmeticFits = (k : KnownAtoms) (f : FormulaTree) (e : List Elem) → HasNoArithmetic f → CertaintyFits k f e
