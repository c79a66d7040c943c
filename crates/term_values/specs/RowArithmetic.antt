-- The integers that come up in the rows of terms fit 64 bits.
use Rattle.std.specs.Prelude.{List, Option, IfSome, FitsSigned, pos, ℤ, ⊤}
use Rattle.std.specs.Int.{w64}
use Rattle.std.specs.List.{AllByRecursion}
use Rattle.kb_logic.specs.declared.elements.Elem.{Elem}
use Rattle.kb_logic.specs.Trees.{TermTree, variable, integer, constructed, application, summation, product, aggregate}
use Rattle.kb_logic.specs.Trees.{TermTrees, no_terms, more_terms, SummandTrees, no_summands, more_summands}
use Rattle.kb_logic.specs.Denotations.{Denotation}
use Rattle.kb_logic.specs.Arithmetic.{ProductFits}
use Rattle.lit_core.specs.declared.literals.Lit.{Lit}
use Rattle.term_values.specs.GroundBases.{GroundBase}
use Rattle.term_values.specs.Rows.{rows_of_terms, rows_of_sum}

-- the sum of a row fits
abbrev pub RowSumFits : List Lit × Option ℤ → Type 0
RowSumFits r = IfSome r.1 (λ z. FitsSigned w64 z)

-- the product of a row's factors fits after each factor
abbrev pub RowProductFits : List Lit × List Denotation → Type 0
RowProductFits r = ProductFits (pos 1) r.1

abbrev mutual
  -- the integers that come up in the rows of the term, in which an aggregate counts as 0
  pub RowsFit : GroundBase → TermTree → List Elem → Type 0
  RowsFit b (variable n) e = ⊤
  RowsFit b (integer z) e = ⊤
  RowsFit b (constructed ty n) e = ⊤
  RowsFit b (application s ts) e = TupleRowsFit b ts e
  RowsFit b (summation ss) e = AllByRecursion RowSumFits (rows_of_sum b ss e) × OperandRowsFit b ss e
  RowsFit b (product ts) e = TupleRowsFit b ts e × AllByRecursion RowProductFits (rows_of_terms b ts e)
  RowsFit b (aggregate k bs f t) e = ⊤

  pub TupleRowsFit : GroundBase → TermTrees → List Elem → Type 0
  TupleRowsFit b no_terms e = ⊤
  TupleRowsFit b (more_terms t ts) e = RowsFit b t e × TupleRowsFit b ts e

  pub OperandRowsFit : GroundBase → SummandTrees → List Elem → Type 0
  OperandRowsFit b no_summands e = ⊤
  OperandRowsFit b (more_summands minus t ss) e = RowsFit b t e × OperandRowsFit b ss e
