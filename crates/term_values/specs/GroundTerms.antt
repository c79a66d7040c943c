-- The terms of which the laws of rows speak.
use Rattle.std.specs.Prelude.{◌≡◌, ℕ, ◌+◌, pos, length, IsSome}
use Rattle.std.specs.List.{AllByRecursion}
use Rattle.kb_logic.specs.Trees.{TermTree, variable, integer, constructed, application, summation, product, aggregate}
use Rattle.kb_logic.specs.Trees.{TermTrees}
use Rattle.kb_logic.specs.Trees.{no_terms, more_terms, SummandTrees, no_summands, more_summands}
use Rattle.kb_logic.specs.Bounds.{value_type_of}
use Rattle.term_values.specs.GroundBases.{GroundBase, tuples_at}

abbrev pub terms_number : TermTrees → ℕ
terms_number no_terms = 0
terms_number (more_terms t ts) = 1 + terms_number ts

-- the symbol is a function of this many arguments
pub record IsFunctionOf (b : GroundBase) (s n : ℕ) : Type 0 where
  pub value : IsSome (value_type_of b.vocabulary s)
  pub arity : AllByRecursion (λ r. length r ≡ n) (tuples_at b s)

abbrev mutual
  -- applications have functions with the right number of arguments, and there are no aggregates
  pub IsGroundTerm : GroundBase → TermTree → Type 0
  IsGroundTerm b (variable n) = Unit {0}
  IsGroundTerm b (integer z) = Unit {0}
  IsGroundTerm b (constructed ty n) = Unit {0}
  IsGroundTerm b (application s ts) = IsFunctionOf b s (terms_number ts) × AreGroundTerms b ts
  IsGroundTerm b (summation ss) = AreGroundSummands b ss
  IsGroundTerm b (product ts) = AreGroundTerms b ts
  IsGroundTerm b (aggregate k bs f t) = ⊥

  pub AreGroundTerms : GroundBase → TermTrees → Type 0
  AreGroundTerms b no_terms = Unit {0}
  AreGroundTerms b (more_terms t ts) = IsGroundTerm b t × AreGroundTerms b ts

  pub AreGroundSummands : GroundBase → SummandTrees → Type 0
  AreGroundSummands b no_summands = Unit {0}
  AreGroundSummands b (more_summands minus t ss) = IsGroundTerm b t × AreGroundSummands b ss

abbrev mutual
  -- there is no aggregate in the term
  pub TermHasNoCounting : TermTree → Type 0
  TermHasNoCounting (variable n) = Unit {0}
  TermHasNoCounting (integer z) = Unit {0}
  TermHasNoCounting (constructed ty n) = Unit {0}
  TermHasNoCounting (application s ts) = TermsHaveNoCounting ts
  TermHasNoCounting (summation ss) = SummandsHaveNoCounting ss
  TermHasNoCounting (product ts) = TermsHaveNoCounting ts
  TermHasNoCounting (aggregate k bs f t) = ⊥

  pub TermsHaveNoCounting : TermTrees → Type 0
  TermsHaveNoCounting no_terms = Unit {0}
  TermsHaveNoCounting (more_terms t ts) = TermHasNoCounting t × TermsHaveNoCounting ts

  pub SummandsHaveNoCounting : SummandTrees → Type 0
  SummandsHaveNoCounting no_summands = Unit {0}
  SummandsHaveNoCounting (more_summands minus t ss) = TermHasNoCounting t × SummandsHaveNoCounting ss

abbrev mutual
  -- the term with 0 in the place of each aggregate
  pub without : TermTree → TermTree
  without (variable n) = variable n
  without (integer z) = integer z
  without (constructed ty n) = constructed ty n
  without (application s ts) = application s (all_without ts)
  without (summation ss) = summation (operands_without ss)
  without (product ts) = product (all_without ts)
  without (aggregate k bs f t) = integer (pos 0)

  pub all_without : TermTrees → TermTrees
  all_without no_terms = no_terms
  all_without (more_terms t ts) = more_terms (without t) (all_without ts)

  pub operands_without : SummandTrees → SummandTrees
  operands_without no_summands = no_summands
  operands_without (more_summands minus t ss) = more_summands minus (without t) (operands_without ss)
