-- Which trees are an application, also in brackets: such a text is a formula and a term.
use Rattle.std.specs.Prelude.{Bool, true, false}
use Rattle.grammar.specs.Trees.{Formula, alone, linked, Or, one, or, And, single, and, Unary, not, every, some, prim}
use Rattle.grammar.specs.Trees.{Prim, group, truth, atom, compare, Term, product, sum, Product, factor, times, Factor}
use Rattle.grammar.specs.Trees.{integer, value, brackets, negative, count, aggregate}

abbrev mutual
  pub app_term : Term → Bool
  app_term (product x) = app_product x
  app_term (sum x s p y) = false

  pub app_product : Product → Bool
  app_product (factor x) = app_factor x
  app_product (times x p y) = false

  pub app_factor : Factor → Bool
  app_factor (value a) = true
  app_factor (brackets p x q) = app_term x
  app_factor (integer n p) = false
  app_factor (negative p x) = false
  app_factor (count p b vs c f e) = false
  app_factor (aggregate a p b vs c f d x e) = false

abbrev mutual
  pub app_formula : Formula → Bool
  app_formula (alone o) = app_or o
  app_formula (linked a o p os) = false

  pub app_or : Or → Bool
  app_or (one a) = app_and a
  app_or (or a p o) = false

  pub app_and : And → Bool
  app_and (single u) = app_unary u
  app_and (and u p a) = false

  pub app_unary : Unary → Bool
  app_unary (prim x) = app_prim x
  app_unary (not p u) = false
  app_unary (every p vs q f) = false
  app_unary (some p n vs q f) = false

  pub app_prim : Prim → Bool
  app_prim (atom a) = true
  app_prim (group p f q) = app_formula f
  app_prim (truth b p) = false
  app_prim (compare x c p y) = false
