-- The integers that come up in a term or a formula fit 64 bits.
use Rattle.std.specs.Prelude.{List, [], ◌∷◌, ◌++◌, IfSome, FitsSigned, pos, ◌*ℤ◌, ℤ, ⊤}
use Rattle.std.specs.Int.{w64}
use Rattle.std.specs.List.{AllByRecursion}
use Rattle.kb_logic.specs.declared.elements.Elem.{Elem}
use Rattle.kb_logic.specs.declared.syntax.AggKind.{AggKind}
use Rattle.kb_logic.specs.declared.syntax.AggKind.TheVariants as kind
use Rattle.kb_logic.specs.declared.structures.Structure.{Structure}
use Rattle.kb_logic.specs.Trees.{TermTree, variable, integer, constructed, application, summation, product, aggregate}
use Rattle.kb_logic.specs.Trees.{TermTrees, no_terms, more_terms, SummandTrees, no_summands, more_summands, FormulaTree}
use Rattle.kb_logic.specs.Trees.{verum, falsum, atom, comparison, negation, conjunction, disjunction, implication}
use Rattle.kb_logic.specs.Trees.{equivalence, universal, existential, numbered, FormulaTrees, no_formulas}
use Rattle.kb_logic.specs.Trees.{more_formulas}
use Rattle.kb_logic.specs.Denotations.{Denotation, number, plus_infinity, minus_infinity, as_number, added, lesser}
use Rattle.kb_logic.specs.Denotations.{greater}
use Rattle.kb_logic.specs.Meaning.{assignments, values_where, sum_of, truth_of, value_of, values_of}

-- an aggregate of no value
abbrev pub start : AggKind → Denotation
start kind.Count = number (pos 0)
start kind.Sum = number (pos 0)
start kind.Min = plus_infinity
start kind.Max = minus_infinity

-- an aggregate with one value more
abbrev pub combined : AggKind → Denotation → Denotation → Denotation
combined kind.Count a v = added a (number (pos 1))
combined kind.Sum a v = added a v
combined kind.Min a v = lesser a v
combined kind.Max a v = greater a v

-- an integer fits
abbrev pub NumberFits : Denotation → Type 0
NumberFits (number z) = FitsSigned w64 z
NumberFits _ = ⊤

-- the aggregate fits after each value
abbrev pub FoldFits : AggKind → Denotation → List Denotation → Type 0
FoldFits k acc [] = ⊤
FoldFits k acc (v ∷ vs) = NumberFits (combined k acc v) × FoldFits k (combined k acc v) vs

-- the product fits after each factor
abbrev pub ProductFits : ℤ → List Denotation → Type 0
ProductFits z [] = ⊤
ProductFits z (number y ∷ vs) = FitsSigned w64 (z *ℤ y) × ProductFits (z *ℤ y) vs
ProductFits z (v ∷ vs) = ⊤

abbrev mutual
  -- the integers that come up in the value of the term
  pub TermFits : Structure → TermTree → List Elem → Type 0
  TermFits m (variable n) e = ⊤
  TermFits m (integer z) e = ⊤
  TermFits m (constructed ty n) e = ⊤
  TermFits m (product ts) e = TermsFit m ts e × ProductFits (pos 1) (values_of m ts e)
  TermFits m (application s ts) e = TermsFit m ts e
  TermFits m (summation ss) e = IfSome (sum_of m ss e) (λ z. FitsSigned w64 z) × SummandsFit m ss e
  TermFits m (aggregate k bs f t) e =
      AllByRecursion (λ a. ArithmeticFits m f (e ++ a) × TermFits m t (e ++ a)) (assignments m bs)
      × FoldFits k (start k) (values_where (λ a. truth_of m f (e ++ a)) (λ a. as_number (value_of m t (e ++ a)))
      (assignments m bs))

  pub TermsFit : Structure → TermTrees → List Elem → Type 0
  TermsFit m no_terms e = ⊤
  TermsFit m (more_terms t ts) e = TermFits m t e × TermsFit m ts e

  pub SummandsFit : Structure → SummandTrees → List Elem → Type 0
  SummandsFit m no_summands e = ⊤
  SummandsFit m (more_summands minus t ss) e = TermFits m t e × SummandsFit m ss e

  -- the integers that come up in the truth of the formula
  pub ArithmeticFits : Structure → FormulaTree → List Elem → Type 0
  ArithmeticFits m verum e = ⊤
  ArithmeticFits m falsum e = ⊤
  ArithmeticFits m (disjunction fs) e = AllFit m fs e
  ArithmeticFits m (implication f g) e = ArithmeticFits m f e × ArithmeticFits m g e
  ArithmeticFits m (equivalence f g) e = ArithmeticFits m f e × ArithmeticFits m g e
  ArithmeticFits m (existential bs f) e = AllByRecursion (λ a. ArithmeticFits m f (e ++ a)) (assignments m bs)
  ArithmeticFits m (atom s ts) e = TermsFit m ts e
  ArithmeticFits m (comparison c a b) e = TermFits m a e × TermFits m b e
  ArithmeticFits m (negation f) e = ArithmeticFits m f e
  ArithmeticFits m (conjunction fs) e = AllFit m fs e
  ArithmeticFits m (universal bs f) e = AllByRecursion (λ a. ArithmeticFits m f (e ++ a)) (assignments m bs)
  ArithmeticFits m (numbered c n bs f) e = AllByRecursion (λ a. ArithmeticFits m f (e ++ a)) (assignments m bs)

  pub AllFit : Structure → FormulaTrees → List Elem → Type 0
  AllFit m no_formulas e = ⊤
  AllFit m (more_formulas f fs) e = ArithmeticFits m f e × AllFit m fs e

abbrev mutual
  -- a term without sums, products and aggregates
  pub IsPlainTerm : TermTree → Type 0
  IsPlainTerm (variable n) = ⊤
  IsPlainTerm (integer z) = ⊤
  IsPlainTerm (constructed ty n) = ⊤
  IsPlainTerm (application s ts) = ArePlainTerms ts
  IsPlainTerm (summation ss) = ⊥
  IsPlainTerm (product ts) = ⊥
  IsPlainTerm (aggregate k bs f t) = ⊥

  pub ArePlainTerms : TermTrees → Type 0
  ArePlainTerms no_terms = ⊤
  ArePlainTerms (more_terms t ts) = IsPlainTerm t × ArePlainTerms ts

abbrev mutual
  -- a formula without sums, products and aggregates
  pub HasNoArithmetic : FormulaTree → Type 0
  HasNoArithmetic verum = ⊤
  HasNoArithmetic falsum = ⊤
  HasNoArithmetic (atom s ts) = ArePlainTerms ts
  HasNoArithmetic (comparison c a b) = IsPlainTerm a × IsPlainTerm b
  HasNoArithmetic (negation f) = HasNoArithmetic f
  HasNoArithmetic (conjunction fs) = HaveNoArithmetic fs
  HasNoArithmetic (disjunction fs) = HaveNoArithmetic fs
  HasNoArithmetic (implication f g) = HasNoArithmetic f × HasNoArithmetic g
  HasNoArithmetic (equivalence f g) = HasNoArithmetic f × HasNoArithmetic g
  HasNoArithmetic (universal bs f) = HasNoArithmetic f
  HasNoArithmetic (existential bs f) = HasNoArithmetic f
  HasNoArithmetic (numbered c n bs f) = HasNoArithmetic f

  pub HaveNoArithmetic : FormulaTrees → Type 0
  HaveNoArithmetic no_formulas = ⊤
  HaveNoArithmetic (more_formulas f fs) = HasNoArithmetic f × HaveNoArithmetic fs

-- a formula without arithmetic fits in every structure
abbrev pub NoArithmeticFits : Type 0
NoArithmeticFits = (m : Structure) (f : FormulaTree) (e : List Elem) → HasNoArithmetic f → ArithmeticFits m f e
