-- There are bounds for each place of a term.
use Rattle.std.proofs.Common.{◌≡◌, ℕ, suc, true, false, List, [], ◌∷◌, ◌++◌, length, map, Option, None, Some}
use Rattle.std.proofs.Common.{option_map, refl, ap}
use Rattle.std.specs.Prelude.{option_to_list}
use Rattle.std.specs.List.{flat_map}
use Rattle.kb_logic.specs.declared.elements.Elem.{Elem}
use Rattle.kb_logic.specs.declared.vocabularies.Vocabulary.{Vocabulary}
use Rattle.kb_logic.specs.Bounds.{types_of}
use Rattle.stage_definitions.specs.Demands.{formula_parts}
use Rattle.stage_definitions.specs.NamedTrees.{NamedTerm, at, NamedNode, variable, integer, constructed, application}
use Rattle.stage_definitions.specs.NamedTrees.{summation, product, aggregate, NamedTerms, no_terms, more_terms}
use Rattle.stage_definitions.specs.NamedTrees.{NamedSummands, no_summands, more_summands, NamedFormula, truth, atom}
use Rattle.stage_definitions.specs.NamedTrees.{comparison, negation, conjunction, disjunction, implication, equivalence}
use Rattle.stage_definitions.specs.NamedTrees.{universal, existential, numbered, NamedFormulas, no_formulas}
use Rattle.stage_definitions.specs.NamedTrees.{more_formulas}
use Rattle.stage_definitions.specs.NamedTrees.{NamedRule, head_terms}
use Rattle.stage_definitions.specs.TermPlaces.{terms_begin, formulas_begin, term_begins, parts_begin, each_begins}
use Rattle.stage_definitions.specs.TermPlaces.{summands_begin, rule_begins}
use Rattle.stage_definitions.specs.TheoryItems.{rule}
use Rattle.stage_definitions.specs.TheoryItems as item
use Rattle.stage_definitions.specs.TypedTrees.{inside, typed_vars, aggregate_parts, typed_formula, typed_formulas}
use Rattle.stage_definitions.specs.TypedTrees.{typed_term, typed_node, typed_terms, typed_summands, rule_types}
use Rattle.stage_definitions.specs.TypedTrees.{typed_rule}
use Rattle.stage_definitions.specs.Sizes.{formula_bounds, formulas_bounds, term_bounds, terms_bounds, summands_bounds}
use Rattle.stage_definitions.specs.Sizes.{item_bounds}
use Rattle.reading_laws.specs.SizeLaws.{TheoriesHaveBounds, BlocksHaveBounds}
use Rattle.reading_laws.proofs.ItemPlaces.{lengths, in_theory}

mutual
  formula_bounded : (v : Vocabulary) (domains : List (List Elem)) (around : List (Option ℕ)) (f : NamedFormula)
      (scope : List ℕ) → length (formula_bounds v domains (typed_formula v around f) scope) ≡ length (terms_begin f)
  formula_bounded v domains around (truth true) scope = refl
  formula_bounded v domains around (truth false) scope = refl
  formula_bounded v domains around (atom s ts) scope = terms_bounded v domains around ts scope
  formula_bounded v domains around (comparison c x y) scope =
      lengths (term_bounds v domains (typed_term v around x) scope)
      (term_bounds v domains (typed_term v around y) scope) (term_begins x) (term_begins y)
      (term_bounded v domains around x scope) (term_bounded v domains around y scope)
  formula_bounded v domains around (negation f) scope = formula_bounded v domains around f scope
  formula_bounded v domains around (conjunction fs) scope = formulas_bounded v domains around fs scope
  formula_bounded v domains around (disjunction fs) scope = formulas_bounded v domains around fs scope
  formula_bounded v domains around (implication f g) scope =
      lengths (formula_bounds v domains (typed_formula v around f) scope)
      (formula_bounds v domains (typed_formula v around g) scope) (terms_begin f) (terms_begin g)
      (formula_bounded v domains around f scope) (formula_bounded v domains around g scope)
  formula_bounded v domains around (equivalence f g) scope =
      lengths (formula_bounds v domains (typed_formula v around f) scope)
      (formula_bounds v domains (typed_formula v around g) scope) (terms_begin f) (terms_begin g)
      (formula_bounded v domains around f scope) (formula_bounded v domains around g scope)
  formula_bounded v domains around (universal xs f) scope = formula_bounded v domains
      (inside v.types around xs (formula_parts v.symbols f)) f (scope ++ types_of
      (typed_vars v.types around xs (formula_parts v.symbols f)))
  formula_bounded v domains around (existential xs f) scope =
      formula_bounded v domains (inside v.types around xs (formula_parts v.symbols f)) f
      (scope ++ types_of (typed_vars v.types around xs (formula_parts v.symbols f)))
  formula_bounded v domains around (numbered c n xs f) scope =
      formula_bounded v domains (inside v.types around xs (formula_parts v.symbols f)) f
      (scope ++ types_of (typed_vars v.types around xs (formula_parts v.symbols f)))

  formulas_bounded : (v : Vocabulary) (domains : List (List Elem)) (around : List (Option ℕ)) (fs : NamedFormulas)
      (scope : List ℕ) → length (formulas_bounds v domains (typed_formulas v around fs) scope)
      ≡ length (formulas_begin fs)
  formulas_bounded v domains around no_formulas scope = refl
  formulas_bounded v domains around (more_formulas f fs) scope =
      lengths (formula_bounds v domains (typed_formula v around f) scope)
      (formulas_bounds v domains (typed_formulas v around fs) scope) (terms_begin f) (formulas_begin fs)
      (formula_bounded v domains around f scope) (formulas_bounded v domains around fs scope)

  term_bounded : (v : Vocabulary) (domains : List (List Elem)) (around : List (Option ℕ)) (t : NamedTerm)
      (scope : List ℕ) → length (term_bounds v domains (typed_term v around t) scope) ≡ length (term_begins t)
  term_bounded v domains around (at p x) scope = node_bounded v domains around x scope p

  node_bounded : (v : Vocabulary) (domains : List (List Elem)) (around : List (Option ℕ)) (x : NamedNode)
      (scope : List ℕ) (p : ℕ) → length (term_bounds v domains (typed_node v around x) scope)
      ≡ length (p ∷ parts_begin x)
  node_bounded v domains around (variable n) scope p = refl
  node_bounded v domains around (integer i) scope p = refl
  node_bounded v domains around (constructed t i) scope p = refl
  node_bounded v domains around (application s us) scope p = ap suc (terms_bounded v domains around us scope)
  node_bounded v domains around (summation ss) scope p = ap suc (summands_bounded v domains around ss scope)
  node_bounded v domains around (product us) scope p = ap suc (terms_bounded v domains around us scope)
  node_bounded v domains around (aggregate how xs f w) scope p =
      let inner = inside v.types around xs (aggregate_parts v.symbols f w) in
      let wider = scope ++ types_of (typed_vars v.types around xs (aggregate_parts v.symbols f w)) in
      ap suc
      (lengths (formula_bounds v domains (typed_formula v inner f) wider)
      (term_bounds v domains (typed_term v inner w) wider) (terms_begin f) (term_begins w)
      (formula_bounded v domains inner f wider) (term_bounded v domains inner w wider))

  terms_bounded : (v : Vocabulary) (domains : List (List Elem)) (around : List (Option ℕ)) (us : NamedTerms)
      (scope : List ℕ) → length (terms_bounds v domains (typed_terms v around us) scope) ≡ length (each_begins us)
  terms_bounded v domains around no_terms scope = refl
  terms_bounded v domains around (more_terms u us) scope =
      lengths (term_bounds v domains (typed_term v around u) scope)
      (terms_bounds v domains (typed_terms v around us) scope) (term_begins u) (each_begins us)
      (term_bounded v domains around u scope) (terms_bounded v domains around us scope)

  summands_bounded : (v : Vocabulary) (domains : List (List Elem)) (around : List (Option ℕ)) (ss : NamedSummands)
      (scope : List ℕ) → length (summands_bounds v domains (typed_summands v around ss) scope)
      ≡ length (summands_begin ss)
  summands_bounded v domains around no_summands scope = refl
  summands_bounded v domains around (more_summands m u ss) scope =
      lengths (term_bounds v domains (typed_term v around u) scope)
      (summands_bounds v domains (typed_summands v around ss) scope) (term_begins u) (summands_begin ss)
      (term_bounded v domains around u scope) (summands_bounded v domains around ss scope)

-- ---- rules

heads_bounded : (v : Vocabulary) (domains : List (List Elem)) (around : List (Option ℕ)) (us : List NamedTerm)
    (o : Option NamedTerm) (scope : List ℕ)
    → length (flat_map (λ t. term_bounds v domains t scope)
    (map (typed_term v around) us ++ option_to_list (option_map (typed_term v around) o)))
    ≡ length (flat_map term_begins (us ++ option_to_list o))
heads_bounded v domains around [] None scope = refl
heads_bounded v domains around [] (Some u) scope =
    lengths (term_bounds v domains (typed_term v around u) scope) [] (term_begins u) []
    (term_bounded v domains around u scope) refl
heads_bounded v domains around (u ∷ us) o scope =
    lengths (term_bounds v domains (typed_term v around u) scope)
    (flat_map (λ t. term_bounds v domains t scope)
    (map (typed_term v around) us ++ option_to_list (option_map (typed_term v around) o)))
    (term_begins u) (flat_map term_begins (us ++ option_to_list o))
    (term_bounded v domains around u scope) (heads_bounded v domains around us o scope)

rule_bounded : (v : Vocabulary) (domains : List (List Elem)) (r : NamedRule)
    → length (item_bounds v domains (rule (typed_rule v r))) ≡ length (rule_begins r)
rule_bounded v domains r =
    let around = rule_types v r in
    let scope = types_of (typed_rule v r).vars in
    lengths (flat_map (λ t. term_bounds v domains t scope) (item.head_terms (typed_rule v r)))
    (formula_bounds v domains (typed_formula v around r.body) scope) (flat_map term_begins (head_terms r))
    (terms_begin r.body)
    (heads_bounded v domains around r.args r.value scope) (formula_bounded v domains around r.body scope)

pub theories_have_bounds : TheoriesHaveBounds
theories_have_bounds v domains = in_theory v (item_bounds v domains) (λ f. formula_bounded v domains [] f [])
    (rule_bounded v domains)

pub blocks_have_bounds : BlocksHaveBounds
blocks_have_bounds v domains t = term_bounded v domains [] t []
