-- What the walk asks of a formula under an assignment.
use Rattle.std.specs.Prelude.{◌≡◌, ℕ, List, ◌++◌, ◌≤◌, length}
use Rattle.std.specs.List.{AllByRecursion}
use Rattle.kb_logic.specs.declared.elements.Elem.{Elem}
use Rattle.kb_logic.specs.Trees.{TermTree, variable, integer, constructed, application, summation, product, aggregate}
use Rattle.kb_logic.specs.Trees.{TermTrees, no_terms, more_terms, SummandTrees, no_summands, more_summands}
use Rattle.kb_logic.specs.Trees.{FormulaTree, verum, falsum, atom, comparison, negation, conjunction, disjunction}
use Rattle.kb_logic.specs.Trees.{implication, equivalence, universal, existential, numbered}
use Rattle.kb_logic.specs.Trees.{FormulaTrees, no_formulas, more_formulas}
use Rattle.kb_logic.specs.Structures.{choices}
use Rattle.lit_core.specs.declared.literals.Lit.{Lit}
use Rattle.ground_core.specs.Problems.{ProblemState, AreLitsOf}
use Rattle.ground_core.specs.Atoms.{ground_atoms}
use Rattle.term_values.specs.GroundBases.{GroundBase}
use Rattle.term_values.specs.RowArithmetic.{RowsFit, TupleRowsFit}
use Rattle.def_ground.specs.GroundForms.{IsPredicateOf}

-- each ground atom has its variable in the problem
abbrev pub HasVars : GroundBase → ProblemState → Type 0
HasVars b p = length (ground_atoms b.vocabulary.symbols b.domains) ≤ p.vars

-- it is said of each ground atom whether it is known, and what
abbrev pub KnowsAtoms : GroundBase → Type 0
KnowsAtoms b = length b.known ≡ length (ground_atoms b.vocabulary.symbols b.domains)

-- the guards of the rows are over the first n variables
abbrev pub HaveLits : {X : Type 0} → ℕ → List (List Lit × X) → Type 0
HaveLits n rs = AllByRecursion (λ r. AreLitsOf n r.0) rs

abbrev mutual
  -- atoms have predicates, and the integers that come up in rows of terms fit 64 bits
  pub IsGroundable : GroundBase → FormulaTree → List Elem → Type 0
  IsGroundable b verum e = Unit {0}
  IsGroundable b falsum e = Unit {0}
  IsGroundable b (atom s ts) e = IsPredicateOf b s × TupleRowsFit b ts e
  IsGroundable b (comparison c x y) e =
      RowsFit b x e × RowsFit b y e × AreInstancesGroundable b x e × AreInstancesGroundable b y e
  IsGroundable b (negation f) e = IsGroundable b f e
  IsGroundable b (conjunction fs) e = AreGroundable b fs e
  IsGroundable b (disjunction fs) e = AreGroundable b fs e
  IsGroundable b (implication f g) e = IsGroundable b f e × IsGroundable b g e
  IsGroundable b (equivalence f g) e = IsGroundable b f e × IsGroundable b g e
  IsGroundable b (universal bs f) e = AllByRecursion (λ a. IsGroundable b f (e ++ a)) (choices b.domains bs)
  IsGroundable b (existential bs f) e = AllByRecursion (λ a. IsGroundable b f (e ++ a)) (choices b.domains bs)
  IsGroundable b (numbered c n bs f) e = AllByRecursion (λ a. IsGroundable b f (e ++ a)) (choices b.domains bs)

  pub AreGroundable : GroundBase → FormulaTrees → List Elem → Type 0
  AreGroundable b no_formulas e = Unit {0}
  AreGroundable b (more_formulas f fs) e = IsGroundable b f e × AreGroundable b fs e

  -- so are the instances of the aggregates in a term, and the rows of their weights
  pub AreInstancesGroundable : GroundBase → TermTree → List Elem → Type 0
  AreInstancesGroundable b (variable n) e = Unit {0}
  AreInstancesGroundable b (integer z) e = Unit {0}
  AreInstancesGroundable b (constructed ty n) e = Unit {0}
  AreInstancesGroundable b (application s ts) e = Unit {0}
  AreInstancesGroundable b (summation ss) e = AreSummandsGroundable b ss e
  AreInstancesGroundable b (product ts) e = AreFactorsGroundable b ts e
  AreInstancesGroundable b (aggregate k bs f t) e =
      AllByRecursion (λ a. IsGroundable b f (e ++ a) × RowsFit b t (e ++ a)) (choices b.domains bs)

  pub AreSummandsGroundable : GroundBase → SummandTrees → List Elem → Type 0
  AreSummandsGroundable b no_summands e = Unit {0}
  AreSummandsGroundable b (more_summands minus t ss) e = AreInstancesGroundable b t e × AreSummandsGroundable b ss e

  pub AreFactorsGroundable : GroundBase → TermTrees → List Elem → Type 0
  AreFactorsGroundable b no_terms e = Unit {0}
  AreFactorsGroundable b (more_terms t ts) e = AreInstancesGroundable b t e × AreFactorsGroundable b ts e
