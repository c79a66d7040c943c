-- Sizes by domains: the number of a symbol's ground atoms, and the static bounds of each term.
use Rattle.std.specs.Prelude.{ℕ, ◌*◌, pos, neg_ℤ, int_lt, Bool, not, ◌&&◌, List, [], ◌∷◌, ◌++◌, length, fold}
use Rattle.std.specs.List.{flat_map}
use Rattle.kb_logic.specs.declared.elements.Elem.{Elem}
use Rattle.kb_logic.specs.declared.vocabularies.Symbol.{Symbol}
use Rattle.kb_logic.specs.declared.vocabularies.Vocabulary.{Vocabulary}
use Rattle.kb_logic.specs.Trees.{TermTree, variable, integer, constructed, application, summation, product, aggregate}
use Rattle.kb_logic.specs.Trees.{TermTrees, no_terms, more_terms, SummandTrees, no_summands, more_summands}
use Rattle.kb_logic.specs.Trees.{FormulaTree, verum, falsum, atom, comparison, negation, conjunction, disjunction}
use Rattle.kb_logic.specs.Trees.{implication, equivalence, universal, existential, numbered, FormulaTrees}
use Rattle.kb_logic.specs.Trees.{no_formulas, more_formulas}
use Rattle.kb_logic.specs.Structures.{domain_at}
use Rattle.kb_logic.specs.Bounds.{Interval, exactly, front_bounds, types_of, bound_limit}
use Rattle.kb_logic.specs.Weights.{value_count}
use Rattle.stage_definitions.specs.ClampedBounds.{clamping_sum, clamping_product, clamped_bounds, clamped_factors}
use Rattle.stage_definitions.specs.ClampedBounds.{clamped_summands}
use Rattle.stage_definitions.specs.TheoryItems.{TheoryItem, sentence, rule, head_terms}

-- ---- ground atoms

-- the product of the sizes of the domains of these types
abbrev pub size_product : List (List Elem) → List ℕ → ℕ
size_product domains types = fold (λ n t. n * length (domain_at domains t)) 1 types

-- how many ground atoms a symbol has
abbrev pub symbol_atoms : List (List Elem) → Symbol → ℕ
symbol_atoms domains s = size_product domains s.args * value_count domains s.value

-- ---- static bounds

-- the bounds lie from minus to plus 10 ^ 15
abbrev pub is_small : Interval → Bool
is_small i = not (int_lt i.low (neg_ℤ (pos bound_limit))) && not (int_lt (pos bound_limit) i.high)

-- the bounds of the terms that begin where this term does: of each prefix of a chain, else of the term itself
abbrev pub bounds_at : Vocabulary → List (List Elem) → TermTree → List ℕ → List Interval
bounds_at v domains (summation ss) scope =
    front_bounds clamping_sum (exactly (pos 0)) (clamped_summands v domains ss scope)
bounds_at v domains (product ts) scope =
    front_bounds clamping_product (exactly (pos 1)) (clamped_factors v domains ts scope)
bounds_at v domains t scope = clamped_bounds v domains t scope ∷ []

-- the bounds at each term of a tree, in the order in which the places of terms are kept, a term before its parts; the
-- scope has the types of the variables in scope
abbrev mutual
  pub formula_bounds : Vocabulary → List (List Elem) → FormulaTree → List ℕ → List (List Interval)
  formula_bounds v domains verum scope = []
  formula_bounds v domains falsum scope = []
  formula_bounds v domains (atom s ts) scope = terms_bounds v domains ts scope
  formula_bounds v domains (comparison c a b) scope = term_bounds v domains a scope ++ term_bounds v domains b scope
  formula_bounds v domains (negation f) scope = formula_bounds v domains f scope
  formula_bounds v domains (conjunction fs) scope = formulas_bounds v domains fs scope
  formula_bounds v domains (disjunction fs) scope = formulas_bounds v domains fs scope
  formula_bounds v domains (implication f g) scope = formula_bounds v domains f scope ++ formula_bounds v domains g
      scope
  formula_bounds v domains (equivalence f g) scope = formula_bounds v domains f scope ++ formula_bounds v domains g
      scope
  formula_bounds v domains (universal bs f) scope = formula_bounds v domains f (scope ++ types_of bs)
  formula_bounds v domains (existential bs f) scope = formula_bounds v domains f (scope ++ types_of bs)
  formula_bounds v domains (numbered c k bs f) scope = formula_bounds v domains f (scope ++ types_of bs)

  pub formulas_bounds : Vocabulary → List (List Elem) → FormulaTrees → List ℕ → List (List Interval)
  formulas_bounds v domains no_formulas scope = []
  formulas_bounds v domains (more_formulas f fs) scope = formula_bounds v domains f scope ++ formulas_bounds v domains
      fs scope

  pub term_bounds : Vocabulary → List (List Elem) → TermTree → List ℕ → List (List Interval)
  term_bounds v domains (variable n) scope = bounds_at v domains (variable n) scope ∷ []
  term_bounds v domains (integer z) scope = bounds_at v domains (integer z) scope ∷ []
  term_bounds v domains (constructed ty n) scope = bounds_at v domains (constructed ty n) scope ∷ []
  term_bounds v domains (application s ts) scope = bounds_at v domains (application s ts) scope
      ∷ terms_bounds v domains ts scope
  term_bounds v domains (summation ss) scope = bounds_at v domains (summation ss) scope
      ∷ summands_bounds v domains ss scope
  term_bounds v domains (product ts) scope = bounds_at v domains (product ts) scope ∷ terms_bounds v domains ts scope
  term_bounds v domains (aggregate k bs f t) scope =
      bounds_at v domains (aggregate k bs f t) scope
      ∷ (formula_bounds v domains f (scope ++ types_of bs) ++ term_bounds v domains t (scope ++ types_of bs))

  pub terms_bounds : Vocabulary → List (List Elem) → TermTrees → List ℕ → List (List Interval)
  terms_bounds v domains no_terms scope = []
  terms_bounds v domains (more_terms t ts) scope = term_bounds v domains t scope ++ terms_bounds v domains ts scope

  pub summands_bounds : Vocabulary → List (List Elem) → SummandTrees → List ℕ → List (List Interval)
  summands_bounds v domains no_summands scope = []
  summands_bounds v domains (more_summands minus t ss) scope = term_bounds v domains t scope ++ summands_bounds v
      domains ss scope

-- the bounds at each term of an item of a theory
abbrev pub item_bounds : Vocabulary → List (List Elem) → TheoryItem → List (List Interval)
item_bounds v domains (sentence f) = formula_bounds v domains f []
item_bounds v domains (rule r) =
    flat_map (λ t. term_bounds v domains t (types_of r.vars)) (head_terms r)
    ++ formula_bounds v domains r.body (types_of r.vars)
