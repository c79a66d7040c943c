-- Formulas without arithmetic meet the condition of `truth` in every structure.
use Rattle.std.proofs.Common.{List, [], ◌∷◌, ◌++◌}
use Rattle.std.specs.List.{AllByRecursion}
use Rattle.kb_logic.specs.declared.elements.Elem.{Elem}
use Rattle.kb_logic.specs.declared.structures.Structure.{Structure}
use Rattle.kb_logic.specs.Trees.{TermTree, variable, integer, constructed, application, summation, product, aggregate}
use Rattle.kb_logic.specs.Trees.{TermTrees, no_terms, more_terms, FormulaTree, verum, falsum, atom, comparison}
use Rattle.kb_logic.specs.Trees.{negation, conjunction, disjunction, implication, equivalence, universal, existential}
use Rattle.kb_logic.specs.Trees.{numbered, FormulaTrees, no_formulas, more_formulas}
use Rattle.kb_logic.specs.Arithmetic.{TermFits, TermsFit, ArithmeticFits, AllFit, IsPlainTerm, ArePlainTerms}
use Rattle.kb_logic.specs.Arithmetic.{HasNoArithmetic, HaveNoArithmetic}
use Rattle.kb_logic.specs.Meaning.{assignments}

all_hold : (P : List Elem → Type 0) (as' : List (List Elem)) → ((a : List Elem) → P a) → AllByRecursion P as'
all_hold P [] h = tt
all_hold P (a ∷ as') h = (h a, all_hold P as' h)

mutual
  plain_term_fits : (m : Structure) (t : TermTree) (e : List Elem) → IsPlainTerm t → TermFits m t e
  plain_term_fits m (variable n) e h = h
  plain_term_fits m (integer z) e h = h
  plain_term_fits m (constructed ty n) e h = h
  plain_term_fits m (application s ts) e h = plain_terms_fit m ts e h
  plain_term_fits m (summation ss) e h = absurd h
  plain_term_fits m (product ts) e h = absurd h
  plain_term_fits m (aggregate k bs f t) e h = absurd h

  plain_terms_fit : (m : Structure) (ts : TermTrees) (e : List Elem) → ArePlainTerms ts → TermsFit m ts e
  plain_terms_fit m no_terms e h = h
  plain_terms_fit m (more_terms t ts) e h = (plain_term_fits m t e h.0, plain_terms_fit m ts e h.1)

mutual
  pub no_arithmetic_fits : (m : Structure) (f : FormulaTree) (e : List Elem) → HasNoArithmetic f → ArithmeticFits m f e
  no_arithmetic_fits m verum e h = h
  no_arithmetic_fits m falsum e h = h
  no_arithmetic_fits m (atom s ts) e h = plain_terms_fit m ts e h
  no_arithmetic_fits m (comparison c a b) e h = (plain_term_fits m a e h.0, plain_term_fits m b e h.1)
  no_arithmetic_fits m (negation f) e h = no_arithmetic_fits m f e h
  no_arithmetic_fits m (conjunction fs) e h = none_fit m fs e h
  no_arithmetic_fits m (disjunction fs) e h = none_fit m fs e h
  no_arithmetic_fits m (implication f g) e h = (no_arithmetic_fits m f e h.0, no_arithmetic_fits m g e h.1)
  no_arithmetic_fits m (equivalence f g) e h = (no_arithmetic_fits m f e h.0, no_arithmetic_fits m g e h.1)
  no_arithmetic_fits m (universal bs f) e h = all_hold (λ a. ArithmeticFits m f (e ++ a)) (assignments m bs)
      (λ a. no_arithmetic_fits m f (e ++ a) h)
  no_arithmetic_fits m (existential bs f) e h = all_hold (λ a. ArithmeticFits m f (e ++ a)) (assignments m bs)
      (λ a. no_arithmetic_fits m f (e ++ a) h)
  no_arithmetic_fits m (numbered c n bs f) e h = all_hold (λ a. ArithmeticFits m f (e ++ a)) (assignments m bs)
      (λ a. no_arithmetic_fits m f (e ++ a) h)

  none_fit : (m : Structure) (fs : FormulaTrees) (e : List Elem) → HaveNoArithmetic fs → AllFit m fs e
  none_fit m no_formulas e h = h
  none_fit m (more_formulas f fs) e h = (no_arithmetic_fits m f e h.0, none_fit m fs e h.1)
