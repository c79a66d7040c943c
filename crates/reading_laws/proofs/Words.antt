-- Where no row of the stage of names refuses a word, its number stands for what is declared.
use Rattle.std.proofs.Common.{◌≡◌, ◌<◌, ◌==◌, ℕ, ◌+◌, Bool, true, false, ◌||◌, not, List, [], ◌∷◌, ◌++◌}
use Rattle.std.proofs.Common.{length, map, is_some, Option, None, Some}
use Rattle.std.proofs.Common.{option_map, refl, sym, ap, subst, ◌∙◌, arith, length-append, slice_get}
use Rattle.std.specs.Prelude.{IfSome}
use Rattle.std.specs.List.{AllByRecursion}
use Rattle.std.proofs.lemmas.Bool.{true≢false, eqb-true, not-false}
use Rattle.std.proofs.lemmas.List.{length-map}
use Rattle.kb_logic.specs.declared.vocabularies.Symbol.{Symbol}
use Rattle.kb_logic.specs.declared.vocabularies.Vocabulary.{Vocabulary}
use Rattle.grammar.specs.declared.terminal.Arrow.{Arrow}
use Rattle.grammar.specs.declared.terminal.Arrow.TheVariants as arrow
use Rattle.grammar.specs.declared.terminal.Adding.{Adding}
use Rattle.grammar.specs.Trees as raw
use Rattle.grammar.specs.Trees.{Name, Var, Vars, Formula, Links, Or, And, Unary, Prim, Term, Product, Factor, App}
use Rattle.grammar.specs.Trees.{Terms, Number}
use Rattle.stage_definitions.specs.Scopes.{Text}
use Rattle.stage_definitions.specs.Files.{Declaration, type_under, constructed_type, symbol}
use Rattle.stage_definitions.specs.Names.{Meaning, undeclared, integers, naturals, a_type, predicate, function, made}
use Rattle.stage_definitions.specs.Names.{variable, Names, meaning_of, meaning_at, text_of}
use Rattle.stage_definitions.specs.Uses.{Context, counted, position, parent_uses, position_uses, uses_in_declarations}
use Rattle.stage_definitions.specs.Uses.{vars_in, var_type, var_text, uses_of_vars, within, inside, app_name, app_count}
use Rattle.stage_definitions.specs.declared.standings.Standing.{Standing}
use Rattle.stage_definitions.specs.declared.standings.Standing.TheVariants.{Elsewhere}
use Rattle.stage_definitions.specs.Standings.{facing, in_product, in_sum, scaled}
use Rattle.stage_definitions.specs.Uses.{terms_count, uses_in, uses_in_links, uses_in_or, uses_in_and}
use Rattle.stage_definitions.specs.Uses.{uses_in_unary, uses_in_prim, uses_in_term, uses_in_operands, uses_in_product}
use Rattle.stage_definitions.specs.Uses.{uses_in_factors, uses_in_factor, uses_in_arguments, uses_in_terms}
use Rattle.stage_definitions.specs.NamesStage.{is_undeclared, is_type, is_no_formula, is_no_term, is_no_function}
use Rattle.stage_definitions.specs.NamesStage.{is_defined}
use Rattle.stage_definitions.specs.NamedTrees.{NamedVar, NamedTerm, at, NamedTerms, more_summands, NamedFormula}
use Rattle.stage_definitions.specs.NamedTrees.{begun_at}
use Rattle.stage_definitions.specs.Numbering.{type_number_of, predicate_number, function_number, symbols_in, named_var}
use Rattle.stage_definitions.specs.Numbering.{named_vars}
use Rattle.stage_definitions.specs.Numbering.{counted_by, implies, implied_by, equivalent, grouped, node_of}
use Rattle.stage_definitions.specs.Numbering.{named_formula}
use Rattle.stage_definitions.specs.Numbering.{named_links, named_or, disjuncts, named_and, conjuncts, named_unary}
use Rattle.stage_definitions.specs.Numbering.{named_prim, named_term, summands, named_product, factors, named_factor}
use Rattle.stage_definitions.specs.Numbering.{named_arguments, named_terms}
use Rattle.reading_laws.proofs.Alls.{all_left, all_right}
use Rattle.reading_laws.proofs.Meanings.{IsFine, AreFine, IsMeaning, no_type, word_means, kept, position_is}
use Rattle.reading_laws.proofs.Numbered.{number_of_terms, IsSum, AreWritten, FormulaIsNumbered, FormulasAreNumbered}
use Rattle.reading_laws.proofs.Numbered.{TermIsNumbered, NodeIsNumbered, TermsAreNumbered, SummandsAreNumbered}
use Rattle.reading_laws.proofs.Numbered.{AreTypes}

-- ---- the types of positions

module _ (v : Vocabulary) (names : Names) (means : (k : ℕ) (w : Text)
    → IsMeaning v.types v.symbols k (meaning_of names w)) where
  type_at : (w : Name) → IsFine names (position w) → type_number_of names w < length v.types
  type_at w fine = position_is v.types v.symbols 0 (meaning_of names (text_of w))
      (means 0 (text_of w)) fine.known fine.right fine.supported

  types_at : (ws : List Name) → AreFine names (map position ws)
      → AllByRecursion (λ t. t < length v.types) (map (type_number_of names) ws)
  types_at [] fine = tt
  types_at (w ∷ ws) fine = (type_at w fine.0, types_at ws fine.1)

  type_if : (o : Option Name) → AreFine names (position_uses o)
      → IfSome (option_map (type_number_of names) o) (λ t. t < length v.types)
  type_if None fine = tt
  type_if (Some w) fine = type_at w fine.0

  pub symbols_have_types : (ds : List Declaration) (t s : ℕ) → AreFine names (uses_in_declarations t s ds)
      → AllByRecursion (AreTypes v.types) (symbols_in names ds)
  symbols_have_types [] t s fine = tt
  symbols_have_types (type_under n p ∷ ds) t s fine =
      symbols_have_types ds (t + 1) s (all_right (IsFine names) (counted 256 (t + 1) n ∷ parent_uses p)
      (uses_in_declarations (t + 1) s ds) fine)
  symbols_have_types (constructed_type n ns ∷ ds) t s fine = symbols_have_types ds (t + 1) s fine.1.1
  symbols_have_types (symbol n args to ∷ ds) t s fine =
      let later = uses_in_declarations t (s + 1) ds in
      let positions = all_left (IsFine names) (map position args ++ position_uses to) later fine.1.1 in (
        record {
          args = types_at args (all_left (IsFine names) (map position args) (position_uses to) positions);
          value = type_if to (all_right (IsFine names) (map position args) (position_uses to) positions);
        },
        symbols_have_types ds t (s + 1)
            (all_right (IsFine names) (map position args ++ position_uses to) later fine.1.1),
      )

  -- ---- words

  same_count : (a b : ℕ) → not (a == b) ≡ false → a ≡ b
  same_count a b h = eqb-true a b (not-false (a == b) h)

  -- a predicate's number stands for a predicate that takes so many arguments
  pub predicate_is : (k : ℕ) (m : Meaning) (n : ℕ) → IsMeaning v.types v.symbols k m → is_undeclared m ≡ false
      → is_no_formula m n ≡ false → is_type m ≡ false
      → (d : Symbol) × (slice_get v.symbols (predicate_number m) ≡ Some d) × (d.value ≡ None) × (n ≡ length d.args)
  predicate_is k undeclared n h known right supported = absurd (true≢false known)
  predicate_is k integers n h known right supported = absurd (true≢false supported)
  predicate_is k naturals n h known right supported = absurd (true≢false supported)
  predicate_is k (a_type t) n h known right supported = absurd (true≢false supported)
  predicate_is k (predicate s j) n h known right supported =
      (h.0, ap (slice_get v.symbols) (kept s 1024 h.4) ∙ h.1, h.2, sym (same_count j n right) ∙ sym h.3)
  predicate_is k (function s j) n h known right supported = absurd (true≢false right)
  predicate_is k (made t i) n h known right supported = absurd (true≢false right)
  predicate_is k (variable level) n h known right supported = absurd (true≢false right)

  atom_numbered : (k : ℕ) (m : Meaning) (n : ℕ) (us : NamedTerms) → IsMeaning v.types v.symbols k m → is_undeclared m
      ≡ false → is_no_formula m n ≡ false → is_type m ≡ false
      → number_of_terms us ≡ n → TermsAreNumbered v k us
      → (d : Symbol) × (slice_get v.symbols (predicate_number m) ≡ Some d) × (d.value ≡ None)
      × (number_of_terms us ≡ length d.args) × TermsAreNumbered v k us
  atom_numbered k m n us h known right supported count rest =
      let d = predicate_is k m n h known right supported in
      (d.0, d.1, d.2, count ∙ d.3, rest)

  -- a function's number stands for a function that takes so many arguments
  pub function_is : (k : ℕ) (m : Meaning) (n : ℕ) → IsMeaning v.types v.symbols k m → is_undeclared m ≡ false
      → is_no_function m n ≡ false → is_type m ≡ false
      → (d : Symbol) × (slice_get v.symbols (function_number m) ≡ Some d) × (is_some d.value ≡ true)
      × (n ≡ length d.args)
  function_is k undeclared n h known right supported = absurd (true≢false known)
  function_is k integers n h known right supported = absurd (true≢false supported)
  function_is k naturals n h known right supported = absurd (true≢false supported)
  function_is k (a_type t) n h known right supported = absurd (true≢false supported)
  function_is k (predicate s j) n h known right supported = absurd (true≢false right)
  function_is k (function s j) n h known right supported =
      (h.0, ap (slice_get v.symbols) (kept s 1024 h.4) ∙ h.1, h.2, sym (same_count j n right) ∙ sym h.3)
  function_is k (made t i) n h known right supported = absurd (true≢false right)
  function_is k (variable level) n h known right supported = absurd (true≢false right)

  node_numbered : (k : ℕ) (m : Meaning) (n : ℕ) (us : NamedTerms) → IsMeaning v.types v.symbols k m → is_undeclared m
      ≡ false → is_no_term m n ≡ false → is_type m ≡ false
      → number_of_terms us ≡ n → TermsAreNumbered v k us → NodeIsNumbered v k (node_of m us)
  node_numbered k undeclared n us h known right supported count rest = absurd (true≢false known)
  node_numbered k integers n us h known right supported count rest = absurd (true≢false supported)
  node_numbered k naturals n us h known right supported count rest = absurd (true≢false supported)
  node_numbered k (a_type t) n us h known right supported count rest = absurd (true≢false supported)
  node_numbered k (predicate s j) n us h known right supported count rest = absurd (true≢false right)
  node_numbered k (function s j) n us h known right supported count rest =
      (h.0, ap (slice_get v.symbols) (kept s 1024 h.4) ∙ h.1, h.2, count ∙ sym (same_count j n right) ∙ sym h.3, rest)
  node_numbered k (made t i) n us h known right supported count rest = (
    h.0,
    ap (slice_get v.types) (kept t 256 h.3) ∙ h.1,
    subst (λ (j : ℕ). j < length h.0.made)
        (sym (kept i 65536 h.4)) h.2,
  )
  node_numbered k (variable level) n us h known right supported count rest = h

  -- ---- variables

  pub vars_written : (before : List Text) (xs : List Var) → AreFine names (uses_of_vars before xs)
      → AreWritten v (map (named_var names) xs)
  vars_written before [] fine = tt
  vars_written before (x ∷ xs) fine =
      let later = uses_of_vars (before ++ var_text x ∷ []) xs in (
        type_if (var_type x) (all_left (IsFine names) (position_uses (var_type x)) later fine.1),
        vars_written (before ++ var_text x ∷ []) xs
            (all_right (IsFine names) (position_uses (var_type x)) later fine.1),
      )

  scope_length : (scope : List Text) (vs : Vars) → length (within scope vs)
      ≡ length scope + length (named_vars names vs)
  scope_length scope vs =
      length-append scope (map var_text (vars_in vs))
      ∙ ap (λ k. length scope + k) (length-map (vars_in vs) var_text ∙ sym (length-map (vars_in vs) (named_var names)))

  formula_within : (scope : List Text) (vs : Vars) (f : Formula)
      → FormulaIsNumbered v (length (within scope vs)) (named_formula names (within scope vs) f)
      → FormulaIsNumbered v (length scope + length (named_vars names vs)) (named_formula names (within scope vs) f)
  formula_within scope vs f h = subst (λ (k : ℕ). FormulaIsNumbered v k (named_formula names (within scope vs) f))
      (scope_length scope vs) h

  term_within : (scope : List Text) (vs : Vars) (t : Term) → TermIsNumbered v (length (within scope vs))
      (named_term names (within scope vs) t)
      → TermIsNumbered v (length scope + length (named_vars names vs)) (named_term names (within scope vs) t)
  term_within scope vs t h = subst (λ (k : ℕ). TermIsNumbered v k (named_term names (within scope vs) t))
      (scope_length scope vs) h

  -- ---- chains of connectives

  abbrev AreAll : ℕ → List NamedFormula → Type 0
  AreAll k fs = AllByRecursion (FormulaIsNumbered v k) fs

  implies_numbered : (k : ℕ) (f : NamedFormula) (gs : List NamedFormula) → FormulaIsNumbered v k f → AreAll k gs
      → FormulaIsNumbered v k (implies f gs)
  implies_numbered k f [] h hs = h
  implies_numbered k f (g ∷ gs) h hs = (h, implies_numbered k g gs hs.0 hs.1)

  implied_by_numbered : (k : ℕ) (f : NamedFormula) (gs : List NamedFormula) → FormulaIsNumbered v k f → AreAll k gs
      → FormulaIsNumbered v k (implied_by f gs)
  implied_by_numbered k f [] h hs = h
  implied_by_numbered k f (g ∷ gs) h hs = implied_by_numbered k _ gs (hs.0, h) hs.1

  equivalent_numbered : (k : ℕ) (f : NamedFormula) (gs : List NamedFormula) → FormulaIsNumbered v k f → AreAll k gs
      → FormulaIsNumbered v k (equivalent f gs)
  equivalent_numbered k f [] h hs = h
  equivalent_numbered k f (g ∷ gs) h hs = equivalent_numbered k _ gs (h, hs.0) hs.1

  grouped_numbered : (k : ℕ) (a : Arrow) (f : NamedFormula) (gs : List NamedFormula) → FormulaIsNumbered v k f
      → AreAll k gs → FormulaIsNumbered v k (grouped a f gs)
  grouped_numbered k arrow.Implies f gs h hs = implies_numbered k f gs h hs
  grouped_numbered k arrow.ImpliedBy f gs h hs = implied_by_numbered k f gs h hs
  grouped_numbered k arrow.Equivalent f gs h hs = equivalent_numbered k f gs h hs

  counted_numbered : (k : ℕ) (n : Number) (xs : List NamedVar) (f : NamedFormula) → AreWritten v xs
      → FormulaIsNumbered v (k + length xs) f → FormulaIsNumbered v k (counted_by n xs f)
  counted_numbered k raw.any xs f w h = (w, h)
  counted_numbered k (raw.exactly n p) xs f w h = (w, h)
  counted_numbered k (raw.compared c p n q) xs f w h = (w, h)

  -- ---- terms

  begun_numbered : (k p : ℕ) (t : NamedTerm) → TermIsNumbered v k t → TermIsNumbered v k (begun_at p t)
  begun_numbered k p (at q x) h = h

  is_sum : (scope : List Text) (x : NamedTerm) (a : Adding) (t : Term)
      → IsSum (more_summands false x (summands names scope a t))
  is_sum scope x a (raw.product p) = tt
  is_sum scope x a (raw.sum p b q t) = tt

  as_many_terms : (scope : List Text) (ts : Terms) → number_of_terms (named_terms names scope ts) ≡ terms_count ts
  as_many_terms scope (raw.final t) = refl
  as_many_terms scope (raw.then t p ts) =
      let same : number_of_terms (named_terms names scope ts) ≡ terms_count ts = as_many_terms scope ts in
      omega (arith, same)

  as_many : (scope : List Text) (a : App) → number_of_terms (named_arguments names scope a) ≡ app_count a
  as_many scope (raw.constant n) = refl
  as_many scope (raw.empty n p q) = refl
  as_many scope (raw.apply n p ts q) = as_many_terms scope ts

  pub means_at : (scope : List Text) (a : App) → IsMeaning v.types v.symbols (length scope)
      (meaning_at names scope (app_name a) (app_count a))
  means_at scope a = word_means v.types v.symbols names scope (app_name a) (app_count a)
      (means (length scope) (text_of (app_name a)))

  mutual
    pub formula_numbered : (c : Context) (f : Formula) → AreFine names (uses_in c f)
        → FormulaIsNumbered v (length c.scope) (named_formula names c.scope f)
    formula_numbered c (raw.alone o) fine = or_numbered c o fine
    formula_numbered c (raw.linked a o p ls) fine =
        grouped_numbered (length c.scope) a _ _
        (or_numbered c o (all_left (IsFine names) (uses_in_or c o) (uses_in_links c ls) fine))
        (links_numbered c ls (all_right (IsFine names) (uses_in_or c o) (uses_in_links c ls) fine))

    links_numbered : (c : Context) (ls : Links) → AreFine names (uses_in_links c ls)
        → AreAll (length c.scope) (named_links names c.scope ls)
    links_numbered c (raw.last o) fine = (or_numbered c o fine, tt)
    links_numbered c (raw.link o p ls) fine = (
      or_numbered c o (all_left (IsFine names) (uses_in_or c o) (uses_in_links c ls) fine),
      links_numbered c ls (all_right (IsFine names) (uses_in_or c o) (uses_in_links c ls) fine),
    )

    or_numbered : (c : Context) (o : Or) → AreFine names (uses_in_or c o)
        → FormulaIsNumbered v (length c.scope) (named_or names c.scope o)
    or_numbered c (raw.one a) fine = and_numbered c a fine
    or_numbered c (raw.or a p o) fine = (
      and_numbered c a (all_left (IsFine names) (uses_in_and c a) (uses_in_or c o) fine),
      disjuncts_numbered c o (all_right (IsFine names) (uses_in_and c a) (uses_in_or c o) fine),
    )

    disjuncts_numbered : (c : Context) (o : Or) → AreFine names (uses_in_or c o)
        → FormulasAreNumbered v (length c.scope) (disjuncts names c.scope o)
    disjuncts_numbered c (raw.one a) fine = (and_numbered c a fine, tt)
    disjuncts_numbered c (raw.or a p o) fine = (
      and_numbered c a (all_left (IsFine names) (uses_in_and c a) (uses_in_or c o) fine),
      disjuncts_numbered c o (all_right (IsFine names) (uses_in_and c a) (uses_in_or c o) fine),
    )

    and_numbered : (c : Context) (a : And) → AreFine names (uses_in_and c a)
        → FormulaIsNumbered v (length c.scope) (named_and names c.scope a)
    and_numbered c (raw.single u) fine = unary_numbered c u fine
    and_numbered c (raw.and u p a) fine = (
      unary_numbered c u (all_left (IsFine names) (uses_in_unary c u) (uses_in_and c a) fine),
      conjuncts_numbered c a (all_right (IsFine names) (uses_in_unary c u) (uses_in_and c a) fine),
    )

    conjuncts_numbered : (c : Context) (a : And) → AreFine names (uses_in_and c a)
        → FormulasAreNumbered v (length c.scope) (conjuncts names c.scope a)
    conjuncts_numbered c (raw.single u) fine = (unary_numbered c u fine, tt)
    conjuncts_numbered c (raw.and u p a) fine = (
      unary_numbered c u (all_left (IsFine names) (uses_in_unary c u) (uses_in_and c a) fine),
      conjuncts_numbered c a (all_right (IsFine names) (uses_in_unary c u) (uses_in_and c a) fine),
    )

    unary_numbered : (c : Context) (u : Unary) → AreFine names (uses_in_unary c u)
        → FormulaIsNumbered v (length c.scope) (named_unary names c.scope u)
    unary_numbered c (raw.not p u) fine = unary_numbered c u fine
    unary_numbered c (raw.every p vs q f) fine =
        let inner = uses_in (inside c vs) f in (
          vars_written [] (vars_in vs) (all_left (IsFine names) (uses_of_vars [] (vars_in vs)) inner fine),
          formula_within c.scope vs f (formula_numbered (inside c vs) f
              (all_right (IsFine names) (uses_of_vars [] (vars_in vs)) inner fine)),
        )
    unary_numbered c (raw.some p n vs q f) fine =
        let inner = uses_in (inside c vs) f in
        counted_numbered (length c.scope) n (named_vars names vs) (named_formula names (within c.scope vs) f)
        (vars_written [] (vars_in vs) (all_left (IsFine names) (uses_of_vars [] (vars_in vs)) inner fine))
        (formula_within c.scope vs f (formula_numbered (inside c vs) f
        (all_right (IsFine names) (uses_of_vars [] (vars_in vs)) inner fine)))
    unary_numbered c (raw.prim x) fine = prim_numbered c x fine

    prim_numbered : (c : Context) (x : Prim) → AreFine names (uses_in_prim c x)
        → FormulaIsNumbered v (length c.scope) (named_prim names c.scope x)
    prim_numbered c (raw.group p f q) fine = formula_numbered c f fine
    prim_numbered c (raw.truth b p) fine = tt
    prim_numbered c (raw.atom a) fine =
        let m = meaning_at names c.scope (app_name a) (app_count a) in
        atom_numbered (length c.scope) m (app_count a) (named_arguments names c.scope a) (means_at c.scope a)
        fine.0.known fine.0.right (no_type m (is_defined names c (app_name a) (app_count a)) fine.0.supported)
        (as_many c.scope a) (arguments_numbered c a fine.1)
    prim_numbered c (raw.compare x k p y) fine = (
      term_numbered (facing y) c x (all_left (IsFine names) (uses_in_term (facing y) c x) (uses_in_term (facing x) c y)
          fine),
      term_numbered (facing x) c y (all_right (IsFine names) (uses_in_term (facing y) c x) (uses_in_term (facing x) c y)
          fine),
    )

    pub term_numbered : (s : Standing) (c : Context) (t : Term) → AreFine names (uses_in_term s c t)
        → TermIsNumbered v (length c.scope) (named_term names c.scope t)
    term_numbered s c (raw.product p) fine = product_numbered s c p fine
    term_numbered s c (raw.sum p a q t) fine =
        let i = in_sum s in (
          is_sum c.scope (named_product names c.scope p) a t,
          (
            product_numbered i c p (all_left (IsFine names) (uses_in_product i c p) (uses_in_operands i c t) fine),
            summands_numbered i c a t (all_right (IsFine names) (uses_in_product i c p) (uses_in_operands i c t) fine),
          ),
        )

    summands_numbered : (s : Standing) (c : Context) (a : Adding) (t : Term) → AreFine names (uses_in_operands s c t)
        → SummandsAreNumbered v (length c.scope) (summands names c.scope a t)
    summands_numbered s c a (raw.product p) fine = (product_numbered s c p fine, tt)
    summands_numbered s c a (raw.sum p b q t) fine = (
      product_numbered s c p (all_left (IsFine names) (uses_in_product s c p) (uses_in_operands s c t) fine),
      summands_numbered s c b t (all_right (IsFine names) (uses_in_product s c p) (uses_in_operands s c t) fine),
    )

    product_numbered : (s : Standing) (c : Context) (p : Product) → AreFine names (uses_in_product s c p)
        → TermIsNumbered v (length c.scope) (named_product names c.scope p)
    product_numbered s c (raw.factor f) fine = factor_numbered s c f fine
    product_numbered s c (raw.times f p q) fine =
        let i = in_product s (raw.times f p q) in (
          factor_numbered i c f (all_left (IsFine names) (uses_in_factor i c f) (uses_in_factors i c q) fine),
          factors_numbered i c q (all_right (IsFine names) (uses_in_factor i c f) (uses_in_factors i c q) fine),
        )

    factors_numbered : (s : Standing) (c : Context) (q : Product) → AreFine names (uses_in_factors s c q)
        → TermsAreNumbered v (length c.scope) (factors names c.scope q)
    factors_numbered s c (raw.factor f) fine = (factor_numbered s c f fine, tt)
    factors_numbered s c (raw.times f p q) fine = (
      factor_numbered s c f (all_left (IsFine names) (uses_in_factor s c f) (uses_in_factors s c q) fine),
      factors_numbered s c q (all_right (IsFine names) (uses_in_factor s c f) (uses_in_factors s c q) fine),
    )

    factor_numbered : (s : Standing) (c : Context) (f : Factor) → AreFine names (uses_in_factor s c f)
        → TermIsNumbered v (length c.scope) (named_factor names c.scope f)
    factor_numbered s c (raw.integer n p) fine = tt
    factor_numbered s c (raw.value a) fine =
        let m = meaning_at names c.scope (app_name a) (app_count a) in
        node_numbered (length c.scope) m (app_count a) (named_arguments names c.scope a) (means_at c.scope a)
        fine.0.known fine.0.right (no_type m (is_defined names c (app_name a) (app_count a)) fine.0.supported)
        (as_many c.scope a) (arguments_numbered c a fine.1)
    factor_numbered s c (raw.brackets p t q) fine = begun_numbered (length c.scope) p (named_term names c.scope t)
        (term_numbered s c t fine)
    factor_numbered s c (raw.negative p f) fine = (tt, (factor_numbered (scaled s) c f fine, tt))
    factor_numbered s c (raw.count p b vs q f r) fine =
        let inner = uses_in (inside c vs) f in (
          vars_written [] (vars_in vs) (all_left (IsFine names) (uses_of_vars [] (vars_in vs)) inner fine.1),
          formula_within c.scope vs f (formula_numbered (inside c vs) f
              (all_right (IsFine names) (uses_of_vars [] (vars_in vs)) inner fine.1)),
          tt,
        )
    factor_numbered s c (raw.aggregate how p b vs q f r t e) fine =
        let inner = inside c vs in
        let vars = uses_of_vars [] (vars_in vs) in
        let rest = all_right (IsFine names) vars (uses_in inner f ++ uses_in_term Elsewhere inner t) fine.1 in (
          vars_written [] (vars_in vs) (all_left (IsFine names) vars (uses_in inner f ++ uses_in_term Elsewhere inner t) fine.1),
          formula_within c.scope vs f (formula_numbered inner f
              (all_left (IsFine names) (uses_in inner f) (uses_in_term Elsewhere inner t) rest)),
          term_within c.scope vs t (term_numbered Elsewhere inner t
              (all_right (IsFine names) (uses_in inner f) (uses_in_term Elsewhere inner t) rest)),
        )

    arguments_numbered : (c : Context) (a : App) → AreFine names (uses_in_arguments c a)
        → TermsAreNumbered v (length c.scope) (named_arguments names c.scope a)
    arguments_numbered c (raw.constant n) fine = tt
    arguments_numbered c (raw.empty n p q) fine = tt
    arguments_numbered c (raw.apply n p ts q) fine = terms_numbered c ts fine

    terms_numbered : (c : Context) (ts : Terms) → AreFine names (uses_in_terms c ts)
        → TermsAreNumbered v (length c.scope) (named_terms names c.scope ts)
    terms_numbered c (raw.final t) fine = (term_numbered Elsewhere c t fine, tt)
    terms_numbered c (raw.then t p ts) fine = (
      term_numbered Elsewhere c t (all_left (IsFine names) (uses_in_term Elsewhere c t) (uses_in_terms c ts) fine),
      terms_numbered c ts (all_right (IsFine names) (uses_in_term Elsewhere c t) (uses_in_terms c ts) fine),
    )
