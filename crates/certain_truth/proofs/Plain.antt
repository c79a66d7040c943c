-- Formulas without arithmetic meet the condition of `kleene`.
use Rattle.std.proofs.Common.{List, [], ◌∷◌, ◌++◌}
use Rattle.std.specs.List.{AllByRecursion}
use Rattle.kb_logic.specs.declared.elements.Elem.{Elem}
use Rattle.kb_logic.specs.Arithmetic.{IsPlainTerm, ArePlainTerms, HasNoArithmetic, HaveNoArithmetic}
use Rattle.kb_logic.specs.Structures.{choices}
use Rattle.kb_logic.specs.Trees.{TermTree, variable, integer, constructed, application, summation, product, aggregate}
use Rattle.kb_logic.specs.Trees.{TermTrees, no_terms, more_terms, FormulaTree, verum, falsum, atom, comparison}
use Rattle.kb_logic.specs.Trees.{negation, conjunction, disjunction, implication, equivalence, universal, existential}
use Rattle.kb_logic.specs.Trees.{numbered, FormulaTrees, no_formulas, more_formulas}
use Rattle.partial_structures.specs.KnownAtoms.{KnownAtoms}
use Rattle.certain_truth.specs.KnownArithmetic.{ValueFits, ValuesFit, CertaintyFits, PartsFit}

all_hold : (P : List Elem → Type 0) (as' : List (List Elem)) → ((a : List Elem) → P a) → AllByRecursion P as'
all_hold P [] h = tt
all_hold P (a ∷ as') h = (h a, all_hold P as' h)

mutual
  pub plain_value_fits : (k : KnownAtoms) (t : TermTree) (e : List Elem) → IsPlainTerm t → ValueFits k t e
  plain_value_fits k (variable n) e h = h
  plain_value_fits k (integer z) e h = h
  plain_value_fits k (constructed ty n) e h = h
  plain_value_fits k (application s ts) e h = plain_values_fit k ts e h
  plain_value_fits k (summation ss) e h = absurd h
  plain_value_fits k (product ts) e h = absurd h
  plain_value_fits k (aggregate kind bs f t) e h = absurd h

  plain_values_fit : (k : KnownAtoms) (ts : TermTrees) (e : List Elem) → ArePlainTerms ts → ValuesFit k ts e
  plain_values_fit k no_terms e h = h
  plain_values_fit k (more_terms t ts) e h = (plain_value_fits k t e h.0, plain_values_fit k ts e h.1)

mutual
  pub plain_certainty_fits : (k : KnownAtoms) (f : FormulaTree) (e : List Elem) → HasNoArithmetic f
      → CertaintyFits k f e
  plain_certainty_fits k verum e h = h
  plain_certainty_fits k falsum e h = h
  plain_certainty_fits k (atom s ts) e h = plain_values_fit k ts e h
  plain_certainty_fits k (comparison c a b) e h = (plain_value_fits k a e h.0, plain_value_fits k b e h.1)
  plain_certainty_fits k (negation f) e h = plain_certainty_fits k f e h
  plain_certainty_fits k (conjunction fs) e h = plain_parts_fit k fs e h
  plain_certainty_fits k (disjunction fs) e h = plain_parts_fit k fs e h
  plain_certainty_fits k (implication f g) e h = (plain_certainty_fits k f e h.0, plain_certainty_fits k g e h.1)
  plain_certainty_fits k (equivalence f g) e h = (plain_certainty_fits k f e h.0, plain_certainty_fits k g e h.1)
  plain_certainty_fits k (universal bs f) e h = all_hold (λ a. CertaintyFits k f (e ++ a)) (choices k.domains bs)
      (λ a. plain_certainty_fits k f (e ++ a) h)
  plain_certainty_fits k (existential bs f) e h = all_hold (λ a. CertaintyFits k f (e ++ a)) (choices k.domains bs)
      (λ a. plain_certainty_fits k f (e ++ a) h)
  plain_certainty_fits k (numbered c n bs f) e h = all_hold (λ a. CertaintyFits k f (e ++ a)) (choices k.domains bs)
      (λ a. plain_certainty_fits k f (e ++ a) h)

  plain_parts_fit : (k : KnownAtoms) (fs : FormulaTrees) (e : List Elem) → HaveNoArithmetic fs → PartsFit k fs e
  plain_parts_fit k no_formulas e h = h
  plain_parts_fit k (more_formulas f fs) e h = (plain_certainty_fits k f e h.0, plain_parts_fit k fs e h.1)
