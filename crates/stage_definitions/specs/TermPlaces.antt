-- Where terms begin.
use Rattle.std.specs.Prelude.{ℕ, List, [], ◌∷◌, ◌++◌}
use Rattle.std.specs.List.{flat_map}
use Rattle.stage_definitions.specs.NamedTrees.{NamedTerm, at, NamedNode, variable, integer, constructed, application}
use Rattle.stage_definitions.specs.NamedTrees.{summation, product, aggregate, NamedTerms, no_terms, more_terms}
use Rattle.stage_definitions.specs.NamedTrees.{NamedSummands, no_summands, more_summands, NamedFormula, truth, atom}
use Rattle.stage_definitions.specs.NamedTrees.{comparison, negation, conjunction, disjunction, implication, equivalence}
use Rattle.stage_definitions.specs.NamedTrees.{universal, existential, numbered, NamedFormulas, no_formulas}
use Rattle.stage_definitions.specs.NamedTrees.{more_formulas}
use Rattle.stage_definitions.specs.NamedTrees.{NamedRule, head_terms}

-- the places of all terms in a tree, in its order, a term before its parts
abbrev mutual
  pub terms_begin : NamedFormula → List ℕ
  terms_begin (truth b) = []
  terms_begin (atom s ts) = each_begins ts
  terms_begin (comparison c x y) = term_begins x ++ term_begins y
  terms_begin (negation f) = terms_begin f
  terms_begin (conjunction fs) = formulas_begin fs
  terms_begin (disjunction fs) = formulas_begin fs
  terms_begin (implication f g) = terms_begin f ++ terms_begin g
  terms_begin (equivalence f g) = terms_begin f ++ terms_begin g
  terms_begin (universal xs f) = terms_begin f
  terms_begin (existential xs f) = terms_begin f
  terms_begin (numbered c k xs f) = terms_begin f

  pub formulas_begin : NamedFormulas → List ℕ
  formulas_begin no_formulas = []
  formulas_begin (more_formulas f fs) = terms_begin f ++ formulas_begin fs

  pub term_begins : NamedTerm → List ℕ
  term_begins (at p x) = p ∷ parts_begin x

  pub parts_begin : NamedNode → List ℕ
  parts_begin (variable n) = []
  parts_begin (integer i) = []
  parts_begin (constructed t i) = []
  parts_begin (application s ts) = each_begins ts
  parts_begin (summation ss) = summands_begin ss
  parts_begin (product ts) = each_begins ts
  parts_begin (aggregate k xs f w) = terms_begin f ++ term_begins w

  pub each_begins : NamedTerms → List ℕ
  each_begins no_terms = []
  each_begins (more_terms t ts) = term_begins t ++ each_begins ts

  pub summands_begin : NamedSummands → List ℕ
  summands_begin no_summands = []
  summands_begin (more_summands m t ss) = term_begins t ++ summands_begin ss

-- the places of all terms in a rule: those of its head, and then those of its body
abbrev pub rule_begins : NamedRule → List ℕ
rule_begins r = flat_map term_begins (head_terms r) ++ terms_begin r.body
