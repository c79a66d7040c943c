-- There is one item for each place of a term.
use Rattle.std.proofs.Common.{◌≡◌, ℕ, suc, true, false, List, [], ◌∷◌, ◌++◌, length, map, Option, None, Some}
use Rattle.std.proofs.Common.{option_map, refl, sym, ap, ◌∙◌, slice_get, append_assoc}
use Rattle.std.specs.Prelude.{option_to_list}
use Rattle.std.specs.List.{flat_map}
use Rattle.std.proofs.lemmas.List.Concat.{flat_map-append}
use Rattle.kb_logic.specs.declared.vocabularies.Vocabulary.{Vocabulary}
use Rattle.kb_logic.specs.Trees as tree
use Rattle.stage_definitions.specs.Demands.{argument_types, later_types, formula_parts}
use Rattle.stage_definitions.specs.NamedTrees.{NamedTerm, at, NamedNode, variable, integer, constructed, application}
use Rattle.stage_definitions.specs.NamedTrees.{summation, product, aggregate, NamedTerms, no_terms, more_terms}
use Rattle.stage_definitions.specs.NamedTrees.{NamedSummands, no_summands, more_summands, NamedFormula, truth, atom}
use Rattle.stage_definitions.specs.NamedTrees.{comparison, negation, conjunction, disjunction, implication, equivalence}
use Rattle.stage_definitions.specs.NamedTrees.{universal, existential, numbered, NamedFormulas, no_formulas}
use Rattle.stage_definitions.specs.NamedTrees.{more_formulas}
use Rattle.stage_definitions.specs.NamedTrees.{NamedRule}
use Rattle.stage_definitions.specs.TermPlaces.{terms_begin, formulas_begin, term_begins, parts_begin, each_begins}
use Rattle.stage_definitions.specs.TermPlaces.{summands_begin, rule_begins}
use Rattle.stage_definitions.specs.TheoryItems.{rule}
use Rattle.stage_definitions.specs.TypedTrees.{inside, aggregate_parts, typed_formula, typed_formulas, typed_term}
use Rattle.stage_definitions.specs.TypedTrees.{typed_node, typed_terms, typed_summands, rule_types, typed_rule}
use Rattle.stage_definitions.specs.IntegerArguments.{first_position, formula_integers, all_integers, term_integers}
use Rattle.stage_definitions.specs.IntegerArguments.{argument_integers, summand_integers, item_integers}
use Rattle.reading_laws.specs.DataLaws.{TheoriesHavePlaces, BlocksHavePlaces}
use Rattle.reading_laws.proofs.ItemPlaces.{lengths, in_theory}

mutual
  formula_places : (v : Vocabulary) (around : List (Option ℕ)) (f : NamedFormula)
      → length (formula_integers v.symbols (typed_formula v around f)) ≡ length (terms_begin f)
  formula_places v around (truth true) = refl
  formula_places v around (truth false) = refl
  formula_places v around (atom s ts) = terms_places v around ts []
  formula_places v around (comparison c x y) =
      lengths (term_integers v.symbols None (typed_term v around x))
      (term_integers v.symbols None (typed_term v around y)) (term_begins x) (term_begins y)
      (term_places v around x None) (term_places v around y None)
  formula_places v around (negation f) = formula_places v around f
  formula_places v around (conjunction fs) = formulas_places v around fs
  formula_places v around (disjunction fs) = formulas_places v around fs
  formula_places v around (implication f g) =
      lengths (formula_integers v.symbols (typed_formula v around f))
      (formula_integers v.symbols (typed_formula v around g)) (terms_begin f) (terms_begin g)
      (formula_places v around f) (formula_places v around g)
  formula_places v around (equivalence f g) =
      lengths (formula_integers v.symbols (typed_formula v around f))
      (formula_integers v.symbols (typed_formula v around g)) (terms_begin f) (terms_begin g)
      (formula_places v around f) (formula_places v around g)
  formula_places v around (universal xs f) = formula_places v (inside v.types around xs (formula_parts v.symbols f)) f
  formula_places v around (existential xs f) = formula_places v (inside v.types around xs (formula_parts v.symbols f)) f
  formula_places v around (numbered c n xs f) = formula_places v
      (inside v.types around xs (formula_parts v.symbols f)) f

  formulas_places : (v : Vocabulary) (around : List (Option ℕ)) (fs : NamedFormulas)
      → length (all_integers v.symbols (typed_formulas v around fs)) ≡ length (formulas_begin fs)
  formulas_places v around no_formulas = refl
  formulas_places v around (more_formulas f fs) =
      lengths (formula_integers v.symbols (typed_formula v around f))
      (all_integers v.symbols (typed_formulas v around fs)) (terms_begin f) (formulas_begin fs)
      (formula_places v around f) (formulas_places v around fs)

  term_places : (v : Vocabulary) (around : List (Option ℕ)) (t : NamedTerm) (position : Option ℕ)
      → length (term_integers v.symbols position (typed_term v around t)) ≡ length (term_begins t)
  term_places v around (at p x) position = node_places v around x position p

  node_places : (v : Vocabulary) (around : List (Option ℕ)) (x : NamedNode) (position : Option ℕ) (p : ℕ)
      → length (term_integers v.symbols position (typed_node v around x)) ≡ length (p ∷ parts_begin x)
  node_places v around (variable n) position p = refl
  node_places v around (integer i) position p = refl
  node_places v around (constructed t i) position p = refl
  node_places v around (application s us) position p = ap suc
      (terms_places v around us (argument_types (slice_get v.symbols s)))
  node_places v around (summation ss) position p = ap suc (summands_places v around ss)
  node_places v around (product us) position p = ap suc (terms_places v around us [])
  node_places v around (aggregate how xs f w) position p =
      let inner = inside v.types around xs (aggregate_parts v.symbols f w) in
      ap suc
      (lengths (formula_integers v.symbols (typed_formula v inner f))
      (term_integers v.symbols None (typed_term v inner w)) (terms_begin f) (term_begins w)
      (formula_places v inner f) (term_places v inner w None))

  terms_places : (v : Vocabulary) (around : List (Option ℕ)) (us : NamedTerms) (types : List ℕ)
      → length (argument_integers v.symbols types (typed_terms v around us)) ≡ length (each_begins us)
  terms_places v around no_terms types = refl
  terms_places v around (more_terms u us) types =
      lengths (term_integers v.symbols (first_position types) (typed_term v around u))
      (argument_integers v.symbols (later_types types) (typed_terms v around us)) (term_begins u) (each_begins us)
      (term_places v around u (first_position types)) (terms_places v around us (later_types types))

  summands_places : (v : Vocabulary) (around : List (Option ℕ)) (ss : NamedSummands)
      → length (summand_integers v.symbols (typed_summands v around ss)) ≡ length (summands_begin ss)
  summands_places v around no_summands = refl
  summands_places v around (more_summands m u ss) =
      lengths (term_integers v.symbols None (typed_term v around u))
      (summand_integers v.symbols (typed_summands v around ss)) (term_begins u) (summands_begin ss)
      (term_places v around u None) (summands_places v around ss)

-- ---- rules

heads_places : (v : Vocabulary) (around : List (Option ℕ)) (us : List NamedTerm) (types : List ℕ)
    → length (argument_integers v.symbols types (tree.terms_of (map (typed_term v around) us)))
    ≡ length (flat_map term_begins us)
heads_places v around [] types = refl
heads_places v around (u ∷ us) types =
    lengths (term_integers v.symbols (first_position types) (typed_term v around u))
    (argument_integers v.symbols (later_types types) (tree.terms_of (map (typed_term v around) us))) (term_begins u)
    (flat_map term_begins us)
    (term_places v around u (first_position types)) (heads_places v around us (later_types types))

value_places : (v : Vocabulary) (around : List (Option ℕ)) (o : Option NamedTerm)
    → length (flat_map (term_integers v.symbols None) (option_to_list (option_map (typed_term v around) o)))
    ≡ length (flat_map term_begins (option_to_list o))
value_places v around None = refl
value_places v around (Some u) = lengths (term_integers v.symbols None (typed_term v around u)) [] (term_begins u) []
    (term_places v around u None) refl

rule_places : (v : Vocabulary) (r : NamedRule) → length (item_integers v.symbols (rule (typed_rule v r)))
    ≡ length (rule_begins r)
rule_places v r =
    let around = rule_types v r in
    let types = argument_types (slice_get v.symbols r.symbol) in
    let args = argument_integers v.symbols types (tree.terms_of (map (typed_term v around) r.args)) in
    let value = flat_map (term_integers v.symbols None) (option_to_list (option_map (typed_term v around) r.value)) in
    let body = formula_integers v.symbols (typed_formula v around r.body) in
    let first = flat_map term_begins r.args in
    let second = flat_map term_begins (option_to_list r.value) in
    let third = terms_begin r.body in
    lengths args (value ++ body) first (second ++ third) (heads_places v around r.args types)
    (lengths value body second third (value_places v around r.value) (formula_places v around r.body))
    ∙ ap length (sym (append_assoc first second third)
    ∙ ap (λ (ps : List ℕ). ps ++ third) (sym (flat_map-append term_begins r.args (option_to_list r.value))))

pub theories_have_places : TheoriesHavePlaces
theories_have_places v = in_theory v (item_integers v.symbols) (formula_places v []) (rule_places v)

pub blocks_have_places : BlocksHavePlaces
blocks_have_places v t = term_places v [] t None
