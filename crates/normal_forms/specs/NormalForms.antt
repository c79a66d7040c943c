-- Negation normal form: a negation stands only before an atom, a comparison or a number quantifier.
use Rattle.std.specs.Prelude.{Bool, true, false, not, List}
use Rattle.kb_logic.specs.declared.vocabularies.Bound.{Bound}
use Rattle.kb_logic.specs.Trees.{FormulaTree, verum, falsum, atom, comparison, negation, conjunction, disjunction}
use Rattle.kb_logic.specs.Trees.{implication, equivalence, universal, existential, numbered, FormulaTrees, no_formulas}
use Rattle.kb_logic.specs.Trees.{more_formulas}

-- the formula, or its negation
abbrev pub signed : Bool → FormulaTree → FormulaTree
signed true f = f
signed false f = negation f

-- true or false
abbrev pub constant : Bool → FormulaTree
constant true = verum
constant false = falsum

-- a conjunction or a disjunction
abbrev pub joined_by : Bool → FormulaTrees → FormulaTree
joined_by true fs = conjunction fs
joined_by false fs = disjunction fs

-- for all or for some assignments
abbrev pub quantified_by : Bool → List Bound → FormulaTree → FormulaTree
quantified_by true bs f = universal bs f
quantified_by false bs f = existential bs f

abbrev mutual
  -- the normal form of the formula, or where the sign is false of its negation
  pub normal_form : Bool → FormulaTree → FormulaTree
  normal_form sign verum = constant sign
  normal_form sign falsum = constant (not sign)
  normal_form sign (atom s ts) = signed sign (atom s ts)
  normal_form sign (comparison c a b) = signed sign (comparison c a b)
  normal_form sign (negation f) = normal_form (not sign) f
  normal_form sign (conjunction fs) = joined_by sign (normal_forms sign fs)
  normal_form sign (disjunction fs) = joined_by (not sign) (normal_forms sign fs)
  normal_form sign (implication f g) = joined_by (not sign) (more_formulas (normal_form (not sign) f)
      (more_formulas (normal_form sign g) no_formulas))
  normal_form sign (equivalence f g) = equivalence (normal_form true f) (normal_form sign g)
  normal_form sign (universal bs f) = quantified_by sign bs (normal_form sign f)
  normal_form sign (existential bs f) = quantified_by (not sign) bs (normal_form sign f)
  normal_form sign (numbered c n bs f) = signed sign (numbered c n bs (normal_form true f))

  -- the normal forms of formulas, one by one
  pub normal_forms : Bool → FormulaTrees → FormulaTrees
  normal_forms sign no_formulas = no_formulas
  normal_forms sign (more_formulas f fs) = more_formulas (normal_form sign f) (normal_forms sign fs)

abbrev mutual
  -- a negation stands only before an atom, a comparison or a number quantifier
  pub IsNormal : FormulaTree → Type 0
  IsNormal verum = Unit {0}
  IsNormal falsum = Unit {0}
  IsNormal (atom s ts) = Unit {0}
  IsNormal (comparison c a b) = Unit {0}
  IsNormal (negation (atom s ts)) = Unit {0}
  IsNormal (negation (comparison c a b)) = Unit {0}
  IsNormal (negation (numbered c n bs f)) = IsNormal f
  IsNormal (negation f) = ⊥
  IsNormal (conjunction fs) = AreNormal fs
  IsNormal (disjunction fs) = AreNormal fs
  IsNormal (implication f g) = IsNormal f × IsNormal g
  IsNormal (equivalence f g) = IsNormal f × IsNormal g
  IsNormal (universal bs f) = IsNormal f
  IsNormal (existential bs f) = IsNormal f
  IsNormal (numbered c n bs f) = IsNormal f

  -- so are all of these
  pub AreNormal : FormulaTrees → Type 0
  AreNormal no_formulas = Unit {0}
  AreNormal (more_formulas f fs) = IsNormal f × AreNormal fs
