-- Terms, formulas and theories as plain trees, without where they lie in memory.
use Rattle.std.specs.Prelude.{ℕ, ℤ, List, [], ◌∷◌, Bool, Option}
use Rattle.kb_logic.specs.declared.syntax.AggKind.{AggKind}
use Rattle.kb_logic.specs.declared.syntax.Cmp.{Cmp}
use Rattle.kb_logic.specs.declared.vocabularies.Bound.{Bound}

mutual
  -- a term
  pub data TermTree : Type 0 where
    variable : ℕ → TermTree
    integer : ℤ → TermTree
    constructed : ℕ → ℕ → TermTree
    application : ℕ → TermTrees → TermTree
    summation : SummandTrees → TermTree
    product : TermTrees → TermTree
    aggregate : AggKind → List Bound → FormulaTree → TermTree → TermTree

  pub data TermTrees : Type 0 where
    no_terms : TermTrees
    more_terms : TermTree → TermTrees → TermTrees

  -- the operands of a sum, each with whether it has a minus
  pub data SummandTrees : Type 0 where
    no_summands : SummandTrees
    more_summands : Bool → TermTree → SummandTrees → SummandTrees

  -- a formula
  pub data FormulaTree : Type 0 where
    verum : FormulaTree
    falsum : FormulaTree
    atom : ℕ → TermTrees → FormulaTree
    comparison : Cmp → TermTree → TermTree → FormulaTree
    negation : FormulaTree → FormulaTree
    conjunction : FormulaTrees → FormulaTree
    disjunction : FormulaTrees → FormulaTree
    implication : FormulaTree → FormulaTree → FormulaTree
    equivalence : FormulaTree → FormulaTree → FormulaTree
    universal : List Bound → FormulaTree → FormulaTree
    existential : List Bound → FormulaTree → FormulaTree
    numbered : Cmp → ℤ → List Bound → FormulaTree → FormulaTree

  pub data FormulaTrees : Type 0 where
    no_formulas : FormulaTrees
    more_formulas : FormulaTree → FormulaTrees → FormulaTrees

abbrev pub terms_of : List TermTree → TermTrees
terms_of [] = no_terms
terms_of (t ∷ ts) = more_terms t (terms_of ts)

abbrev pub formulas_of : List FormulaTree → FormulaTrees
formulas_of [] = no_formulas
formulas_of (f ∷ fs) = more_formulas f (formulas_of fs)

abbrev pub summands_of : List (Bool × TermTree) → SummandTrees
summands_of [] = no_summands
summands_of (s ∷ ss) = more_summands s.0 s.1 (summands_of ss)

-- a rule: its variables, its head, whether it has a body, and its body, which is `verum` where it has none; a
-- predicate's head has no value
pub record RuleTree : Type 0 where
  pub vars : List Bound
  pub symbol : ℕ
  pub args : List TermTree
  pub value : Option TermTree
  pub has_body : Bool
  pub body : FormulaTree

-- a definition is its rules
pub record DefinitionTree : Type 0 where
  pub rules : List RuleTree

-- a theory
pub record TheoryTree : Type 0 where
  pub sentences : List FormulaTree
  pub definitions : List DefinitionTree
