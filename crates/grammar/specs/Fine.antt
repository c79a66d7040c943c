-- A quantified formula reaches as far right as it can: only the last operand of a chain may end in one.
use Rattle.std.specs.Prelude.{◌≡◌, Bool, true, false}
use Rattle.grammar.specs.declared.terminal.Comparison.TheVariants as cmp
use Rattle.grammar.specs.Trees.{Number, compared, Formula, alone, linked, Links, last, link, Or, one, or, And, single}
use Rattle.grammar.specs.Trees.{and, Unary, not, every, some, prim, Prim, group, truth, atom, compare, Term, product}
use Rattle.grammar.specs.Trees.{sum, Product, factor, times, Factor, integer, value, brackets, negative, count}
use Rattle.grammar.specs.Trees.{aggregate, App, constant, empty, apply, Terms, final, then}

-- no quantified formula stands at its end
abbrev pub closed_unary : Unary → Bool
closed_unary (not p u) = closed_unary u
closed_unary (every p vs q f) = false
closed_unary (some p n vs q f) = false
closed_unary (prim x) = true

abbrev pub closed_and : And → Bool
closed_and (single u) = closed_unary u
closed_and (and u p a) = closed_and a

abbrev pub closed_or : Or → Bool
closed_or (one a) = closed_and a
closed_or (or a p o) = closed_or o

-- a number of instances is compared by each sign but ~=
abbrev pub FineNumber : Number → Type 0
FineNumber (compared cmp.NotEqual p n q) = ⊥
FineNumber _ = Unit {0}

abbrev mutual
  pub FineFormula : Formula → Type 0
  FineFormula (alone o) = FineOr o
  FineFormula (linked a o p os) = (closed_or o ≡ true) × FineOr o × FineLinks os

  pub FineLinks : Links → Type 0
  FineLinks (last o) = FineOr o
  FineLinks (link o p os) = (closed_or o ≡ true) × FineOr o × FineLinks os

  pub FineOr : Or → Type 0
  FineOr (one a) = FineAnd a
  FineOr (or a p o) = (closed_and a ≡ true) × FineAnd a × FineOr o

  pub FineAnd : And → Type 0
  FineAnd (single u) = FineUnary u
  FineAnd (and u p a) = (closed_unary u ≡ true) × FineUnary u × FineAnd a

  pub FineUnary : Unary → Type 0
  FineUnary (not p u) = FineUnary u
  FineUnary (every p vs q f) = FineFormula f
  FineUnary (some p n vs q f) = FineNumber n × FineFormula f
  FineUnary (prim x) = FinePrim x

  pub FinePrim : Prim → Type 0
  FinePrim (group p f q) = FineFormula f
  FinePrim (truth b p) = Unit {0}
  FinePrim (atom a) = FineApp a
  FinePrim (compare x c p y) = FineTerm x × FineTerm y

  pub FineTerm : Term → Type 0
  FineTerm (product x) = FineProduct x
  FineTerm (sum x s p y) = FineProduct x × FineTerm y

  pub FineProduct : Product → Type 0
  FineProduct (factor x) = FineFactor x
  FineProduct (times x p y) = FineFactor x × FineProduct y

  pub FineFactor : Factor → Type 0
  FineFactor (integer n p) = Unit {0}
  FineFactor (value a) = FineApp a
  FineFactor (brackets p x q) = FineTerm x
  FineFactor (negative p x) = FineFactor x
  FineFactor (count p b vs c f e) = FineFormula f
  FineFactor (aggregate a p b vs c f d x e) = FineFormula f × FineTerm x

  pub FineApp : App → Type 0
  FineApp (constant n) = Unit {0}
  FineApp (empty n p q) = Unit {0}
  FineApp (apply n p xs q) = FineTerms xs

  pub FineTerms : Terms → Type 0
  FineTerms (final x) = FineTerm x
  FineTerms (then x p xs) = FineTerm x × FineTerms xs
