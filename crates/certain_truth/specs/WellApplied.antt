-- What is applied within its types, in a structure.
use Rattle.std.specs.Prelude.{◌≡◌, ℕ, List, ◌++◌, true, Option, None, Some, is_some, slice_get, ⊤}
use Rattle.std.specs.List.{AllByRecursion}
use Rattle.kb_logic.specs.declared.elements.Elem.{Elem}
use Rattle.kb_logic.specs.declared.vocabularies.Symbol.{Symbol}
use Rattle.kb_logic.specs.declared.structures.Structure.{Structure}
use Rattle.kb_logic.specs.Trees.{TermTree, variable, integer, constructed, application, summation, product, aggregate}
use Rattle.kb_logic.specs.Trees.{TermTrees, no_terms, more_terms, SummandTrees, no_summands, more_summands, FormulaTree}
use Rattle.kb_logic.specs.Trees.{verum, falsum, atom, comparison, negation, conjunction, disjunction, implication}
use Rattle.kb_logic.specs.Trees.{equivalence, universal, existential, numbered, FormulaTrees, no_formulas}
use Rattle.kb_logic.specs.Trees.{more_formulas}
use Rattle.kb_logic.specs.Denotations.{Denotation}
use Rattle.kb_logic.specs.Meaning.{assignments, values_of}
use Rattle.partial_structures.specs.Applications.{are_typed}

-- the symbol is a function, and the values are elements of its argument types
abbrev pub IsDefinedAt : List Symbol → Structure → ℕ → List Denotation → Type 0
IsDefinedAt symbols m s vs = (d : Symbol) × (slice_get symbols s ≡ Some d) × (is_some d.value ≡ true)
    × (are_typed m.domains d.args vs ≡ true)

-- the symbol is no function
abbrev pub IsNoFunction : Option Symbol → Type 0
IsNoFunction None = ⊤
IsNoFunction (Some d) = d.value ≡ None

abbrev mutual
  -- each function in the term is applied to elements of its argument types, in the structure m
  pub AppliesWell : List Symbol → Structure → TermTree → List Elem → Type 0
  AppliesWell symbols m (variable n) e = ⊤
  AppliesWell symbols m (integer z) e = ⊤
  AppliesWell symbols m (constructed ty n) e = ⊤
  AppliesWell symbols m (application s ts) e = AllApplyWell symbols m ts e × IsDefinedAt symbols m s (values_of m ts e)
  AppliesWell symbols m (summation ss) e = OperandsApplyWell symbols m ss e
  AppliesWell symbols m (product ts) e = AllApplyWell symbols m ts e
  AppliesWell symbols m (aggregate kind bs f t) e = AllByRecursion (λ a. IsWellApplied symbols m f (e ++ a)
      × AppliesWell symbols m t (e ++ a)) (assignments m bs)

  pub AllApplyWell : List Symbol → Structure → TermTrees → List Elem → Type 0
  AllApplyWell symbols m no_terms e = ⊤
  AllApplyWell symbols m (more_terms t ts) e = AppliesWell symbols m t e × AllApplyWell symbols m ts e

  pub OperandsApplyWell : List Symbol → Structure → SummandTrees → List Elem → Type 0
  OperandsApplyWell symbols m no_summands e = ⊤
  OperandsApplyWell symbols m (more_summands minus t ss) e = AppliesWell symbols m t e
      × OperandsApplyWell symbols m ss e

  -- each function in the formula is applied to elements of its argument types, and stands as no atom
  pub IsWellApplied : List Symbol → Structure → FormulaTree → List Elem → Type 0
  IsWellApplied symbols m verum e = ⊤
  IsWellApplied symbols m falsum e = ⊤
  IsWellApplied symbols m (atom s ts) e = AllApplyWell symbols m ts e × IsNoFunction (slice_get symbols s)
  IsWellApplied symbols m (comparison c a b) e = AppliesWell symbols m a e × AppliesWell symbols m b e
  IsWellApplied symbols m (negation f) e = IsWellApplied symbols m f e
  IsWellApplied symbols m (conjunction fs) e = AreWellApplied symbols m fs e
  IsWellApplied symbols m (disjunction fs) e = AreWellApplied symbols m fs e
  IsWellApplied symbols m (implication f g) e = IsWellApplied symbols m f e × IsWellApplied symbols m g e
  IsWellApplied symbols m (equivalence f g) e = IsWellApplied symbols m f e × IsWellApplied symbols m g e
  IsWellApplied symbols m (universal bs f) e = AllByRecursion (λ a. IsWellApplied symbols m f (e ++ a))
      (assignments m bs)
  IsWellApplied symbols m (existential bs f) e = AllByRecursion (λ a. IsWellApplied symbols m f (e ++ a))
      (assignments m bs)
  IsWellApplied symbols m (numbered c n bs f) e = AllByRecursion (λ a. IsWellApplied symbols m f (e ++ a))
      (assignments m bs)

  pub AreWellApplied : List Symbol → Structure → FormulaTrees → List Elem → Type 0
  AreWellApplied symbols m no_formulas e = ⊤
  AreWellApplied symbols m (more_formulas f fs) e = IsWellApplied symbols m f e × AreWellApplied symbols m fs e
