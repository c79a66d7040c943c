-- The tree with the types of its variables is well typed, where what it demands is met.
use Rattle.std.proofs.Common.{◌≡◌, ◌<◌, ◌⊎◌, inl, inr, ℕ, ℤ, pos, zero, suc, ◌+◌, true, false, ◌&&◌, is_some, List, []}
use Rattle.std.proofs.Common.{◌∷◌, ◌++◌, length, map, Option, None, Some, option_map, unwrap_or, slice_get, refl, sym}
use Rattle.std.proofs.Common.{ap, subst, ◌∙◌, arith, length-append}
use Rattle.std.specs.Prelude.{option_and_then}
use Rattle.std.proofs.lemmas.Bool.{true≢false, not-false, and_parts}
use Rattle.std.proofs.lemmas.List.{length-map}
use Rattle.std.proofs.lemmas.Option.{slice_get-map}
use Rattle.kb_logic.specs.declared.syntax.Cmp.{Cmp}
use Rattle.kb_logic.specs.declared.syntax.Cmp.TheVariants as cmp
use Rattle.kb_logic.specs.declared.vocabularies.Bound.{Bound}
use Rattle.kb_logic.specs.declared.vocabularies.TypeDecl.{TypeDecl}
use Rattle.kb_logic.specs.declared.vocabularies.Symbol.{Symbol}
use Rattle.kb_logic.specs.declared.vocabularies.Vocabulary.{Vocabulary}
use Rattle.kb_logic.specs.Trees as tree
use Rattle.kb_logic.specs.Bounds.{types_of, value_type_of}
use Rattle.kb_logic.specs.Typing.{IsNumberType, Sort, element_of, arithmetic, sort_of, IsNumeric, SortsAreAkin}
use Rattle.kb_logic.specs.Typing.{SidesFit, IsIntegerSuch, IsElementBelow, TermIsTyped, ArgumentsAreTyped}
use Rattle.kb_logic.specs.Typing.{PlacesAreTyped, FactorsAreTyped, OperandsAreTyped, FormulaIsTyped, AllAreTyped}
use Rattle.stage_definitions.specs.Kinship.{is_under, is_number_type, are_akin}
use Rattle.stage_definitions.specs.Demands.{TermType, whole, declared, known, Kind, of_variable, by_itself, Part, Parts}
use Rattle.stage_definitions.specs.Demands.{parts_of, argument_types, value_type, kind_of, is_plain_integer}
use Rattle.stage_definitions.specs.Demands.{is_lone_integer, is_integer_term, number_demand, comparison_demands}
use Rattle.stage_definitions.specs.Demands.{formula_parts, formulas_parts, term_parts, node_parts, arguments_parts}
use Rattle.stage_definitions.specs.Demands.{factors_parts, summands_parts}
use Rattle.stage_definitions.specs.NamedTrees.{NamedVar, NamedTerm, at, NamedNode, variable, integer, constructed}
use Rattle.stage_definitions.specs.NamedTrees.{application, summation, product, aggregate, NamedTerms, no_terms}
use Rattle.stage_definitions.specs.NamedTrees.{more_terms, NamedSummands, no_summands, more_summands, NamedFormula}
use Rattle.stage_definitions.specs.NamedTrees.{truth}
use Rattle.stage_definitions.specs.NamedTrees.{atom, comparison, negation, conjunction, disjunction, implication}
use Rattle.stage_definitions.specs.NamedTrees.{equivalence, universal, existential, numbered, NamedFormulas}
use Rattle.stage_definitions.specs.NamedTrees.{no_formulas}
use Rattle.stage_definitions.specs.NamedTrees.{more_formulas}
use Rattle.stage_definitions.specs.Typing.{type_in}
use Rattle.stage_definitions.specs.TypedTrees.{typed_from, inside, typed_vars, aggregate_parts, integer_of}
use Rattle.stage_definitions.specs.TypedTrees.{typed_formula}
use Rattle.stage_definitions.specs.TypedTrees.{typed_formulas, typed_term, typed_node, typed_terms, typed_summands}
use Rattle.stage_definitions.specs.TypesStage.{is_no_number, are_apart, is_misplaced}
use Rattle.reading_laws.proofs.Numbered.{number_of_terms, IsSum, FormulaIsNumbered, FormulasAreNumbered, TermIsNumbered}
use Rattle.reading_laws.proofs.Numbered.{NodeIsNumbered, TermsAreNumbered, SummandsAreNumbered}
use Rattle.reading_laws.proofs.Kin.{below, number_type, akin}
use Rattle.reading_laws.proofs.MetDemands.{AreMet, met_left, met_right, scope_met}

-- ---- what the tests of types say of sorts

abbrev type_of_sort : Sort → TermType
type_of_sort (element_of t) = declared t
type_of_sort arithmetic = whole

module _ (v : Vocabulary) where
  is_numeric : (s : Sort) → is_no_number v.types (type_of_sort s) ≡ false → IsNumeric v (Some s)
  is_numeric (element_of t) h = number_type v t (not-false (is_number_type v.types t) h)
  is_numeric arithmetic h = tt

  are_akin_sorts : (a b : Sort) → are_apart v.types (type_of_sort a) (type_of_sort b) ≡ false
      → SortsAreAkin v (Some a) (Some b)
  are_akin_sorts (element_of t) (element_of u) h = akin v t u (not-false (are_akin v.types t u) h)
  are_akin_sorts (element_of t) arithmetic h = number_type v t (not-false (is_number_type v.types t) h)
  are_akin_sorts arithmetic (element_of u) h = number_type v u (not-false (is_number_type v.types u) h)
  are_akin_sorts arithmetic arithmetic h = tt

  -- ---- the sort of a term is the type that the stage sees

  abbrev HasSort : List ℕ → Kind → Option Sort → Type 0
  HasSort sc k o = (s : Sort) × (o ≡ Some s) × (type_in (map Some sc) k ≡ type_of_sort s)

  variable_sort : (sc : List ℕ) (n : ℕ) → n < length sc → (ty : ℕ) × (slice_get sc n ≡ Some ty)
  variable_sort [] n lt = absurd (omega (arith, lt))
  variable_sort (t ∷ sc) zero lt = (t, refl)
  variable_sort (t ∷ sc) (suc n) lt = variable_sort sc n (omega (arith, lt))

  variable_has : (sc : List ℕ) (n ty : ℕ) → slice_get sc n ≡ Some ty
      → HasSort sc (of_variable n) (option_map element_of (slice_get sc n))
  variable_has sc n ty e = (
    element_of ty,
    ap (option_map element_of) e,
    ap (λ (o : Option (Option ℕ)). known (unwrap_or o None)) (slice_get-map Some sc n ∙ ap (option_map Some) e),
  )

  valued : (o : Option ℕ) → is_some o ≡ true → (ty : ℕ) × (o ≡ Some ty)
  valued None h = absurd (true≢false (sym h))
  valued (Some ty) h = (ty, refl)

  application_has : (sc : List ℕ) (s : ℕ) (d : Symbol) → slice_get v.symbols s ≡ Some d → is_some d.value ≡ true
      → HasSort sc (by_itself (known (value_type (slice_get v.symbols s)))) (option_map element_of (value_type_of v s))
  application_has sc s d e h =
      let ty = valued d.value h in (
        element_of ty.0,
        ap (λ (o : Option Symbol). option_map element_of (option_and_then (λ t. t.value) o)) e
            ∙ ap (option_map element_of) ty.1,
        ap (λ (o : Option Symbol). known (value_type o)) e ∙ ap known ty.1,
      )

  term_has_sort : (around : List (Option ℕ)) (sc : List ℕ) (t : NamedTerm) → TermIsNumbered v (length sc) t
      → HasSort sc (kind_of v.symbols t) (sort_of v (typed_term v around t) sc)
  term_has_sort around sc (at p (variable n)) h = let ty = variable_sort sc n h in variable_has sc n ty.0 ty.1
  term_has_sort around sc (at p (integer i)) h = (arithmetic, refl, refl)
  term_has_sort around sc (at p (constructed t i)) h = (element_of t, refl, refl)
  term_has_sort around sc (at p (application s us)) h = application_has sc s h.0 h.1 h.2
  term_has_sort around sc (at p (summation ss)) h = (arithmetic, refl, refl)
  term_has_sort around sc (at p (product us)) h = (arithmetic, refl, refl)
  term_has_sort around sc (at p (aggregate how xs f w)) h = (arithmetic, refl, refl)

  -- ---- single demands

  pub number_met : (around : List (Option ℕ)) (sc : List ℕ) (t : NamedTerm) → TermIsNumbered v (length sc) t
      → is_no_number v.types (type_in (map Some sc) (kind_of v.symbols t)) ≡ false
      → IsNumeric v (sort_of v (typed_term v around t) sc)
  number_met around sc t h m =
      let s = term_has_sort around sc t h in
      subst (λ (o : Option Sort). IsNumeric v o) (sym s.1) (is_numeric s.0 (ap (is_no_number v.types) (sym s.2) ∙ m))

  akin_met : (around : List (Option ℕ)) (sc : List ℕ) (x y : NamedTerm) → TermIsNumbered v (length sc) x
      → TermIsNumbered v (length sc) y
      → are_apart v.types (type_in (map Some sc) (kind_of v.symbols x)) (type_in (map Some sc) (kind_of v.symbols y))
      ≡ false
      → SortsAreAkin v (sort_of v (typed_term v around x) sc) (sort_of v (typed_term v around y) sc)
  akin_met around sc x y h g m =
      let s = term_has_sort around sc x h in
      let r = term_has_sort around sc y g in
      let apart : are_apart v.types (type_of_sort s.0) (type_of_sort r.0) ≡ false =
      ap (λ (t : TermType). are_apart v.types t (type_of_sort r.0)) (sym s.2)
      ∙ ap (are_apart v.types (type_in (map Some sc) (kind_of v.symbols x))) (sym r.2) ∙ m in
      subst (λ (o : Option Sort). SortsAreAkin v o (sort_of v (typed_term v around y) sc)) (sym s.1)
      (subst (λ (o : Option Sort). SortsAreAkin v (Some s.0) o) (sym r.1) (are_akin_sorts s.0 r.0 apart))

  place_met : (around : List (Option ℕ)) (sc : List ℕ) (t : NamedTerm) (ty : ℕ) → TermIsNumbered v (length sc) t
      → are_apart v.types (type_in (map Some sc) (kind_of v.symbols t)) (declared ty) ≡ false
      → SortsAreAkin v (sort_of v (typed_term v around t) sc) (Some (element_of ty))
  place_met around sc t ty h m =
      let s = term_has_sort around sc t h in
      subst (λ (o : Option Sort). SortsAreAkin v o (Some (element_of ty))) (sym s.1)
      (are_akin_sorts s.0 (element_of ty) (ap (λ (u : TermType). are_apart v.types u (declared ty)) (sym s.2) ∙ m))

  abbrev pub Asked : ℕ → ℤ → Type 0
  Asked ty z = IsNumberType v ty

  plain_is : (around : List (Option ℕ)) (t : NamedTerm) → is_plain_integer t ≡ true → (z : ℤ)
      × (typed_term v around t ≡ tree.integer z)
  plain_is around (at p (variable n)) h = absurd (true≢false (sym h))
  plain_is around (at p (integer i)) h = (pos (integer_of i), refl)
  plain_is around (at p (constructed t i)) h = absurd (true≢false (sym h))
  plain_is around (at p (application s us)) h = absurd (true≢false (sym h))
  plain_is around (at p (summation ss)) h = absurd (true≢false (sym h))
  plain_is around (at p (product us)) h = absurd (true≢false (sym h))
  plain_is around (at p (aggregate how xs f w)) h = absurd (true≢false (sym h))

  lone_is : (around : List (Option ℕ)) (ty : ℕ) (ss : NamedSummands) → IsSum ss → is_lone_integer ss ≡ true
      → IsNumberType v ty
      → IsIntegerSuch (Asked ty) (tree.summation (typed_summands v around ss))
  lone_is around ty no_summands h i n = absurd (true≢false (sym i))
  lone_is around ty (more_summands true t no_summands) h i n =
      let z = plain_is around t i in
      (z.0, inr (ap (λ (u : tree.TermTree). tree.summation (tree.more_summands true u tree.no_summands)) z.1, n))
  lone_is around ty (more_summands false t no_summands) h i n = absurd h
  lone_is around ty (more_summands m t (more_summands o u ss)) h i n = absurd (true≢false (sym i))

  integer_is : (around : List (Option ℕ)) (sc : List ℕ) (ty : ℕ) (t : NamedTerm) → TermIsNumbered v (length sc) t
      → is_integer_term t ≡ true → IsNumberType v ty
      → IsIntegerSuch (Asked ty) (typed_term v around t)
  integer_is around sc ty (at p (variable m)) h i n = absurd (true≢false (sym i))
  integer_is around sc ty (at p (integer j)) h i n = (pos (integer_of j), inl (refl, n))
  integer_is around sc ty (at p (constructed t j)) h i n = absurd (true≢false (sym i))
  integer_is around sc ty (at p (application s us)) h i n = absurd (true≢false (sym i))
  integer_is around sc ty (at p (summation ss)) h i n = lone_is around ty ss h.0 i n
  integer_is around sc ty (at p (product us)) h i n = absurd (true≢false (sym i))
  integer_is around sc ty (at p (aggregate how xs f w)) h i n = absurd (true≢false (sym i))

  placed_by : (around : List (Option ℕ)) (sc : List ℕ) (ty : ℕ) (t : NamedTerm) → TermIsNumbered v (length sc) t
      → (s : Sort)
      → is_misplaced v.types (is_integer_term t) (type_of_sort s) ty ≡ false → IsElementBelow v (Some s) ty
      ⊎ IsIntegerSuch (Asked ty) (typed_term v around t)
  placed_by around sc ty t h (element_of u) m = inl (below v u ty (not-false (is_under v.types u ty) m))
  placed_by around sc ty t h arithmetic m =
      let parts = and_parts (is_integer_term t) (is_number_type v.types ty)
      (not-false (is_integer_term t && is_number_type v.types ty) m) in
      inr (integer_is around sc ty t h parts.0 (number_type v ty parts.1))

  argument_met : (around : List (Option ℕ)) (sc : List ℕ) (t : NamedTerm) (ty : ℕ) → TermIsNumbered v (length sc) t
      → is_misplaced v.types (is_integer_term t) (type_in (map Some sc) (kind_of v.symbols t)) ty ≡ false
      → IsElementBelow v (sort_of v (typed_term v around t) sc) ty ⊎ IsIntegerSuch (Asked ty) (typed_term v around t)
  argument_met around sc t ty h m =
      let s = term_has_sort around sc t h in
      subst (λ (o : Option Sort). IsElementBelow v o ty ⊎ IsIntegerSuch (Asked ty) (typed_term v around t)) (sym s.1)
      (placed_by around sc ty t h s.0 (ap (λ (u : TermType). is_misplaced v.types (is_integer_term t) u ty) (sym s.2)
      ∙ m))

  sides_met : (around : List (Option ℕ)) (sc : List ℕ) (c : Cmp) (x y : NamedTerm) → TermIsNumbered v (length sc) x
      → TermIsNumbered v (length sc) y
      → AreMet v.types around sc (comparison_demands v.symbols c x y)
      → SidesFit v c (sort_of v (typed_term v around x) sc) (sort_of v (typed_term v around y) sc)
  sides_met around sc cmp.Eq x y h g m = akin_met around sc x y h g m.0
  sides_met around sc cmp.Ne x y h g m = akin_met around sc x y h g m.0
  sides_met around sc cmp.Lt x y h g m = (number_met around sc x h m.1.0, number_met around sc y g m.1.1.0)
  sides_met around sc cmp.Gt x y h g m = (number_met around sc x h m.1.0, number_met around sc y g m.1.1.0)
  sides_met around sc cmp.Le x y h g m = (number_met around sc x h m.1.0, number_met around sc y g m.1.1.0)
  sides_met around sc cmp.Ge x y h g m = (number_met around sc x h m.1.0, number_met around sc y g m.1.1.0)

  -- ---- variables

  vars_length : (types : List TypeDecl) (inner : List (Option ℕ)) (ps : Parts) (n : ℕ) (xs : List NamedVar)
      → length (typed_from types inner ps n xs) ≡ length xs
  vars_length types inner ps n [] = refl
  vars_length types inner ps n (x ∷ xs) = ap suc (vars_length types inner ps (n + 1) xs)

  pub scope_length : (around : List (Option ℕ)) (sc : List ℕ) (xs : List NamedVar) (ps : List Part)
      → length sc + length xs ≡ length (sc ++ types_of (typed_vars v.types around xs ps))
  scope_length around sc xs ps =
      sym (length-append sc (types_of (typed_vars v.types around xs ps))
      ∙ ap (λ k. length sc + k) (length-map (typed_vars v.types around xs ps) (λ (b : Bound). b.ty)
      ∙ vars_length v.types (inside v.types around xs ps) (parts_of ps) (length around) xs))

  formula_in : (around : List (Option ℕ)) (sc : List ℕ) (xs : List NamedVar) (ps : List Part) (f : NamedFormula)
      → FormulaIsNumbered v (length sc + length xs) f
      → FormulaIsNumbered v (length (sc ++ types_of (typed_vars v.types around xs ps))) f
  formula_in around sc xs ps f h = subst (λ (k : ℕ). FormulaIsNumbered v k f) (scope_length around sc xs ps) h

  term_in : (around : List (Option ℕ)) (sc : List ℕ) (xs : List NamedVar) (ps : List Part) (t : NamedTerm)
      → TermIsNumbered v (length sc + length xs) t
      → TermIsNumbered v (length (sc ++ types_of (typed_vars v.types around xs ps))) t
  term_in around sc xs ps t h = subst (λ (k : ℕ). TermIsNumbered v k t) (scope_length around sc xs ps) h

  pub same_types : (s : ℕ) (d : Symbol) → slice_get v.symbols s ≡ Some d
      → d.args ≡ argument_types (slice_get v.symbols s)
  same_types s d e = ap argument_types (sym e)

  -- ---- trees

  mutual
    pub formula_typed : (around : List (Option ℕ)) (sc : List ℕ) (f : NamedFormula) → FormulaIsNumbered v (length sc) f
        → AreMet v.types around sc (formula_parts v.symbols f) → FormulaIsTyped v Asked (typed_formula v around f) sc
    formula_typed around sc (truth true) h m = tt
    formula_typed around sc (truth false) h m = tt
    formula_typed around sc (atom s us) h m = (
      h.0,
      h.1,
      h.2,
      places_typed around sc us h.0.args h.3 h.4
          (subst (λ (ts : List ℕ). AreMet v.types around sc (arguments_parts v.symbols false ts us))
          (sym (same_types s h.0 h.1)) m),
    )
    formula_typed around sc (comparison c x y) h m =
        let demands = comparison_demands v.symbols c x y in
        let later = met_right v.types around sc demands (term_parts v.symbols x ++ term_parts v.symbols y) m in (
          term_typed around sc x h.0 (met_left v.types around sc (term_parts v.symbols x)
              (term_parts v.symbols y) later),
          term_typed around sc y h.1 (met_right v.types around sc (term_parts v.symbols x)
              (term_parts v.symbols y) later),
          sides_met around sc c x y h.0 h.1 (met_left v.types around sc demands
              (term_parts v.symbols x ++ term_parts v.symbols y) m),
        )
    formula_typed around sc (negation f) h m = formula_typed around sc f h m
    formula_typed around sc (conjunction fs) h m = formulas_typed around sc fs h m
    formula_typed around sc (disjunction fs) h m = formulas_typed around sc fs h m
    formula_typed around sc (implication f g) h m = (
      formula_typed around sc f h.0 (met_left v.types around sc (formula_parts v.symbols f)
          (formula_parts v.symbols g) m),
      formula_typed around sc g h.1 (met_right v.types around sc (formula_parts v.symbols f)
          (formula_parts v.symbols g) m),
    )
    formula_typed around sc (equivalence f g) h m = (
      formula_typed around sc f h.0 (met_left v.types around sc (formula_parts v.symbols f)
          (formula_parts v.symbols g) m),
      formula_typed around sc g h.1 (met_right v.types around sc (formula_parts v.symbols f)
          (formula_parts v.symbols g) m),
    )
    formula_typed around sc (universal xs f) h m =
        let ps = formula_parts v.symbols f in
        let both = scope_met v around sc xs ps m in (
          both.0,
          formula_typed (inside v.types around xs ps) (sc ++ types_of (typed_vars v.types around xs ps)) f
              (formula_in around sc xs ps f h.1) both.1,
        )
    formula_typed around sc (existential xs f) h m =
        let ps = formula_parts v.symbols f in
        let both = scope_met v around sc xs ps m in (
          both.0,
          formula_typed (inside v.types around xs ps) (sc ++ types_of (typed_vars v.types around xs ps)) f
              (formula_in around sc xs ps f h.1) both.1,
        )
    formula_typed around sc (numbered c n xs f) h m =
        let ps = formula_parts v.symbols f in
        let both = scope_met v around sc xs ps m in (
          both.0,
          formula_typed (inside v.types around xs ps) (sc ++ types_of (typed_vars v.types around xs ps)) f
              (formula_in around sc xs ps f h.1) both.1,
        )

    formulas_typed : (around : List (Option ℕ)) (sc : List ℕ) (fs : NamedFormulas)
        → FormulasAreNumbered v (length sc) fs
        → AreMet v.types around sc (formulas_parts v.symbols fs) → AllAreTyped v Asked (typed_formulas v around fs) sc
    formulas_typed around sc no_formulas h m = tt
    formulas_typed around sc (more_formulas f fs) h m = (
      formula_typed around sc f h.0 (met_left v.types around sc (formula_parts v.symbols f)
          (formulas_parts v.symbols fs) m),
      formulas_typed around sc fs h.1 (met_right v.types around sc (formula_parts v.symbols f)
          (formulas_parts v.symbols fs) m),
    )

    pub term_typed : (around : List (Option ℕ)) (sc : List ℕ) (t : NamedTerm) → TermIsNumbered v (length sc) t
        → AreMet v.types around sc (term_parts v.symbols t) → TermIsTyped v Asked (typed_term v around t) sc
    term_typed around sc (at p x) h m = node_typed around sc x h m

    node_typed : (around : List (Option ℕ)) (sc : List ℕ) (x : NamedNode) → NodeIsNumbered v (length sc) x
        → AreMet v.types around sc (node_parts v.symbols x) → TermIsTyped v Asked (typed_node v around x) sc
    node_typed around sc (variable n) h m = variable_sort sc n h
    node_typed around sc (integer i) h m = tt
    node_typed around sc (constructed t i) h m = h
    node_typed around sc (application s us) h m = (
      h.0,
      h.1,
      h.2,
      arguments_typed around sc us h.0.args h.3 h.4
          (subst (λ (ts : List ℕ). AreMet v.types around sc (arguments_parts v.symbols true ts us))
          (sym (same_types s h.0 h.1)) m),
    )
    node_typed around sc (summation ss) h m = summands_typed around sc ss h.1 m
    node_typed around sc (product us) h m = factors_typed around sc us h m
    node_typed around sc (aggregate how xs f w) h m =
        let ps = aggregate_parts v.symbols f w in
        let inner = inside v.types around xs ps in
        let types = sc ++ types_of (typed_vars v.types around xs ps) in
        let both = scope_met v around sc xs ps m in
        let last = met_right v.types inner types (formula_parts v.symbols f)
        (number_demand v.symbols w ∷ term_parts v.symbols w) both.1 in (
          both.0,
          formula_typed inner types f (formula_in around sc xs ps f h.1)
              (met_left v.types inner types (formula_parts v.symbols f)
              (number_demand v.symbols w ∷ term_parts v.symbols w) both.1),
          term_typed inner types w (term_in around sc xs ps w h.2) last.1,
          number_met inner types w (term_in around sc xs ps w h.2) last.0,
        )

    pub arguments_typed : (around : List (Option ℕ)) (sc : List ℕ) (us : NamedTerms) (types : List ℕ)
        → number_of_terms us ≡ length types → TermsAreNumbered v (length sc) us
        → AreMet v.types around sc (arguments_parts v.symbols true types us)
        → ArgumentsAreTyped v Asked (typed_terms v around us) types sc
    arguments_typed around sc no_terms [] c h m = tt
    arguments_typed around sc no_terms (ty ∷ types) c h m = omega (arith, c)
    arguments_typed around sc (more_terms u us) [] c h m = omega (arith, c)
    arguments_typed around sc (more_terms u us) (ty ∷ types) c h m =
        let later = arguments_parts v.symbols true types us in (
          term_typed around sc u h.0 (met_left v.types around sc (term_parts v.symbols u) later m.1),
          argument_met around sc u ty h.0 m.0,
          arguments_typed around sc us types (omega (arith, c)) h.1
              (met_right v.types around sc (term_parts v.symbols u) later m.1),
        )

    places_typed : (around : List (Option ℕ)) (sc : List ℕ) (us : NamedTerms) (types : List ℕ) → number_of_terms us
        ≡ length types → TermsAreNumbered v (length sc) us
        → AreMet v.types around sc (arguments_parts v.symbols false types us)
        → PlacesAreTyped v Asked (typed_terms v around us) types sc
    places_typed around sc no_terms [] c h m = tt
    places_typed around sc no_terms (ty ∷ types) c h m = omega (arith, c)
    places_typed around sc (more_terms u us) [] c h m = omega (arith, c)
    places_typed around sc (more_terms u us) (ty ∷ types) c h m =
        let later = arguments_parts v.symbols false types us in (
          term_typed around sc u h.0 (met_left v.types around sc (term_parts v.symbols u) later m.1),
          place_met around sc u ty h.0 m.0,
          places_typed around sc us types (omega (arith, c)) h.1
              (met_right v.types around sc (term_parts v.symbols u) later m.1),
        )

    factors_typed : (around : List (Option ℕ)) (sc : List ℕ) (us : NamedTerms) → TermsAreNumbered v (length sc) us
        → AreMet v.types around sc (factors_parts v.symbols us) → FactorsAreTyped v Asked (typed_terms v around us) sc
    factors_typed around sc no_terms h m = tt
    factors_typed around sc (more_terms u us) h m = (
      term_typed around sc u h.0 (met_left v.types around sc (term_parts v.symbols u)
          (factors_parts v.symbols us) m.1),
      number_met around sc u h.0 m.0,
      factors_typed around sc us h.1 (met_right v.types around sc (term_parts v.symbols u)
          (factors_parts v.symbols us) m.1),
    )

    summands_typed : (around : List (Option ℕ)) (sc : List ℕ) (ss : NamedSummands)
        → SummandsAreNumbered v (length sc) ss
        → AreMet v.types around sc (summands_parts v.symbols ss)
        → OperandsAreTyped v Asked (typed_summands v around ss) sc
    summands_typed around sc no_summands h m = tt
    summands_typed around sc (more_summands n u ss) h m = (
      term_typed around sc u h.0 (met_left v.types around sc (term_parts v.symbols u)
          (summands_parts v.symbols ss) m.1),
      number_met around sc u h.0 m.0,
      summands_typed around sc ss h.1 (met_right v.types around sc (term_parts v.symbols u)
          (summands_parts v.symbols ss) m.1),
    )
