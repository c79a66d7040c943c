-- Trees with numbers for words: with types, they can be spoken in the scope of their variables.
use Rattle.std.proofs.Common.{◌≡◌, ◌≢◌, ◌<◌, ◌+◌, ◌^◌, ◌==◌, ℕ, ℤ, Bool, true, false, nat_lt, List, [], ◌∷◌, ◌++◌}
use Rattle.std.proofs.Common.{map, length, if◌then◌else◌}
use Rattle.std.proofs.Common.{Option, slice_get, refl, sym, ap, subst, ◌∙◌, arith}
use Rattle.std.specs.Prelude.{⊤}
use Rattle.std.specs.List.{AllByRecursion}
use Rattle.std.proofs.lemmas.Bool.{true≢false, eqb-true, not-false}
use Rattle.std.proofs.lemmas.Bool.Decides.{nat_tests}
use Rattle.kb_logic.specs.declared.syntax.AggKind.{AggKind}
use Rattle.kb_logic.specs.declared.syntax.AggKind.TheVariants as kind
use Rattle.kb_logic.specs.declared.syntax.Cmp.{Cmp}
use Rattle.kb_logic.specs.declared.vocabularies.Bound.{Bound}
use Rattle.kb_logic.specs.declared.vocabularies.TypeDecl.{TypeDecl}
use Rattle.kb_logic.specs.declared.vocabularies.Vocabulary.{Vocabulary}
use Rattle.kb_logic.specs.Trees as tree
use Rattle.kb_logic.specs.Bounds.{types_of}
use Rattle.kb_logic.specs.Typing.{TermIsTyped, ArgumentsAreTyped, PlacesAreTyped, FactorsAreTyped, OperandsAreTyped}
use Rattle.kb_logic.specs.Typing.{FormulaIsTyped, AllAreTyped}
use Rattle.grammar.specs.declared.terminal.Arrow.{Arrow}
use Rattle.grammar.specs.declared.terminal.Arrow.TheVariants as arrow
use Rattle.grammar.specs.declared.terminal.Comparison.{Comparison}
use Rattle.grammar.specs.declared.terminal.Comparison.TheVariants as cmp
use Rattle.grammar.specs.Fine.{FineNumber}
use Rattle.grammar.specs.Trees as raw
use Rattle.grammar.specs.Trees.{name, Var, Vars, Number}
use Rattle.stage_definitions.specs.Demands.{Part, Parts, parts_of, formula_parts}
use Rattle.stage_definitions.specs.Scopes.{Text}
use Rattle.stage_definitions.specs.Names.{Meaning, undeclared, integers, naturals, a_type, predicate, function, made}
use Rattle.stage_definitions.specs.Names.{variable, Names, meaning_of, meaning_at}
use Rattle.stage_definitions.specs.NamesStage.{is_undeclared, is_type, is_no_formula, is_no_term}
use Rattle.stage_definitions.specs.NamedTrees as named
use Rattle.stage_definitions.specs.NamedTrees.{NamedTerm, at, NamedNode, NamedTerms, no_terms, more_terms}
use Rattle.stage_definitions.specs.NamedTrees.{NamedSummands}
use Rattle.stage_definitions.specs.NamedTrees.{no_summands, more_summands, NamedFormula, NamedFormulas, no_formulas}
use Rattle.stage_definitions.specs.NamedTrees.{more_formulas}
use Rattle.stage_definitions.specs.Numbering.{within_count, predicate_number, type_number, comparison_of, named_var}
use Rattle.stage_definitions.specs.Numbering.{named_vars, counted_by, implies, implied_by, equivalent, grouped, node_of}
use Rattle.stage_definitions.specs.TypedTrees.{aggregate_parts, typed_from, inside, typed_vars, integer_of}
use Rattle.stage_definitions.specs.TypedTrees.{typed_formula}
use Rattle.stage_definitions.specs.TypedTrees.{typed_formulas, typed_term, typed_node, typed_terms, typed_summands}
use Rattle.stage_definitions.specs.Uses.{vars_in, var_text, within}
use Rattle.printed_texts.specs.Names.{IsName}
use Rattle.printed_texts.specs.Formulas.{CountsBy}
use Rattle.printed_texts.specs.Meanings.{tms_count, node_meaning}
use Rattle.printed_texts.specs.FormulaPrints.{symbol_word, type_word, made_in, bound_names}
use Rattle.printed_texts.specs.Speaking.{sign_of, speak_tms}
use Rattle.printed_texts.proofs.Words.{word_of_piece}
use Rattle.reading_laws.specs.Words.{IsFreeWord}
use Rattle.reading_laws.proofs.Meanings.{kept}
use Rattle.file_laws.proofs.WordMeanings.{IsCalledAt}
use Rattle.file_laws.proofs.Spoken.{HasFormula, HasTerm, HasSummand, IsWeighed, IsSpokenHere, AreSpokenHere}
use Rattle.file_laws.proofs.Spoken.{TermIsSpoken, TermsAreSpoken, SummandsAreSpoken, AreNamed, said_terms}
use Rattle.file_laws.proofs.Spoken.{are_tms, both_spoken, one_spoken, product_spoken, sum_spoken, negative_spoken}
use Rattle.file_laws.proofs.Spoken.{every_spoken, some_spoken, so_many_spoken, count_spoken, aggregate_spoken}

-- ---- words

pub is_name : (n : Text) → IsFreeWord n → IsName n
is_name n h = record { word = word_of_piece n h.spelled; read = h.read; free = h.free }

-- ---- integers

below : (n c : ℕ) → nat_lt n c ≡ true → n < c
below n c e = grind (arith, nat_tests)

within_low : (c n : ℕ) → 0 < c → within_count c n < c
within_low c n some = by (nat_lt n c) refl
  where
    by : (b : Bool) → nat_lt n c ≡ b → (if b then n else 0) < c
    by true e = below n c e
    by false e = some

pub integer_low : (n : ℕ) → integer_of n < 2 ^ 63
integer_low n = within_low (2 ^ 63) n (omega arith)

pub integer_kept : (n : ℕ) → integer_of (integer_of n) ≡ integer_of n
integer_kept n = kept (integer_of n) (2 ^ 63) (integer_low n)

-- ---- variables

module _ (names : Names) (types : List TypeDecl) (inner : List (Option ℕ)) (ps : Parts) where
  names_kept : (n : ℕ) (xs : List Var) → bound_names (typed_from types inner ps n (map (named_var names) xs))
      ≡ map var_text xs
  names_kept n [] = refl
  names_kept n (x ∷ xs) = ap (λ (ns : List Text). var_text x ∷ ns) (names_kept (n + 1) xs)

  bounds_named : (n : ℕ) (xs : List Var) → AllByRecursion (λ x. IsName (var_text x)) xs
      → AreNamed (typed_from types inner ps n (map (named_var names) xs))
  bounds_named n [] h = tt
  bounds_named n (x ∷ xs) h = (h.0, bounds_named (n + 1) xs h.1)

  some_bounds : (n : ℕ) (vs : Vars) → typed_from types inner ps n (map (named_var names) (vars_in vs)) ≢ []
  some_bounds n (raw.var x) e = absurd (cc)
  some_bounds n (raw.beside x vs) e = absurd (cc)
  some_bounds n (raw.comma x p vs) e = absurd (cc)

counts : (c : Comparison) (p n q : ℕ) → FineNumber (raw.compared c p n q) → CountsBy (sign_of (comparison_of c))
counts cmp.Equal p n q h = tt
counts cmp.NotEqual p n q h = absurd h
counts cmp.Less p n q h = tt
counts cmp.Greater p n q h = tt
counts cmp.AtMost p n q h = tt
counts cmp.AtLeast p n q h = tt

module _ (v : Vocabulary) (names : Names) (I : ℕ → ℤ → Type 0) where
  -- ---- trees that are spoken, once they have types

  abbrev pub IsGood : List Text → NamedFormula → Type 0
  IsGood scope g = (around : List (Option ℕ)) (sc : List ℕ) → FormulaIsTyped v I (typed_formula v around g) sc
      → IsSpokenHere v names scope (typed_formula v around g)

  abbrev pub AllGood : List Text → List NamedFormula → Type 0
  AllGood scope gs = AllByRecursion (IsGood scope) gs

  abbrev pub AreGood : List Text → NamedFormulas → Type 0
  AreGood scope no_formulas = ⊤
  AreGood scope (more_formulas g gs) = IsGood scope g × AreGood scope gs

  abbrev pub NodeIsGood : List Text → NamedNode → Type 0
  NodeIsGood scope x = (around : List (Option ℕ)) (sc : List ℕ) → TermIsTyped v I (typed_node v around x) sc
      → TermIsSpoken v names scope (typed_node v around x)

  abbrev pub TermIsGood : List Text → NamedTerm → Type 0
  TermIsGood scope t = (around : List (Option ℕ)) (sc : List ℕ) → TermIsTyped v I (typed_term v around t) sc
      → TermIsSpoken v names scope (typed_term v around t)

  abbrev pub TermsAreGood : List Text → NamedTerms → Type 0
  TermsAreGood scope no_terms = ⊤
  TermsAreGood scope (more_terms t ts) = TermIsGood scope t × TermsAreGood scope ts

  abbrev pub SummandsAreGood : List Text → NamedSummands → Type 0
  SummandsAreGood scope no_summands = ⊤
  SummandsAreGood scope (more_summands m t ss) = TermIsGood scope t × SummandsAreGood scope ss

  -- ---- lists

  module _ (scope : List Text) (around : List (Option ℕ)) (sc : List ℕ) where
    formulas_spoken : (fs : NamedFormulas) → AreGood scope fs → AllAreTyped v I (typed_formulas v around fs) sc
        → AreSpokenHere v names scope (typed_formulas v around fs)
    formulas_spoken no_formulas g h = tt
    formulas_spoken (more_formulas f fs) g h = (g.0 around sc h.0, formulas_spoken fs g.1 h.1)

    places_spoken : (us : NamedTerms) (types : List ℕ) → TermsAreGood scope us
        → PlacesAreTyped v I (typed_terms v around us) types sc → TermsAreSpoken v names scope (typed_terms v around us)
    places_spoken no_terms types g h = tt
    places_spoken (more_terms u us) [] g h = absurd h
    places_spoken (more_terms u us) (t ∷ types) g h = (g.0 around sc h.0, places_spoken us types g.1 h.2)

    arguments_spoken : (us : NamedTerms) (types : List ℕ) → TermsAreGood scope us
        → ArgumentsAreTyped v I (typed_terms v around us) types sc
        → TermsAreSpoken v names scope (typed_terms v around us)
    arguments_spoken no_terms types g h = tt
    arguments_spoken (more_terms u us) [] g h = absurd h
    arguments_spoken (more_terms u us) (t ∷ types) g h = (g.0 around sc h.0, arguments_spoken us types g.1 h.2)

    factors_spoken : (us : NamedTerms) → TermsAreGood scope us → FactorsAreTyped v I (typed_terms v around us) sc
        → TermsAreSpoken v names scope (typed_terms v around us)
    factors_spoken no_terms g h = tt
    factors_spoken (more_terms u us) g h = (g.0 around sc h.0, factors_spoken us g.1 h.2)

    summands_spoken : (ss : NamedSummands) → SummandsAreGood scope ss
        → OperandsAreTyped v I (typed_summands v around ss) sc
        → SummandsAreSpoken v names scope (typed_summands v around ss)
    summands_spoken no_summands g h = tt
    summands_spoken (more_summands m u ss) g h = (g.0 around sc h.0, summands_spoken ss g.1 h.2)

  -- ---- chains of connectives

  module _ (scope : List Text) where
    implication_good : (f g : NamedFormula) → IsGood scope f → IsGood scope g → IsGood scope (named.implication f g)
    implication_good f g h k around sc t =
        let a = h around sc t.0 in
        let b = k around sc t.1 in
        ((a.0, b.0), (a.1, b.1))

    equivalence_good : (f g : NamedFormula) → IsGood scope f → IsGood scope g → IsGood scope (named.equivalence f g)
    equivalence_good f g h k around sc t =
        let a = h around sc t.0 in
        let b = k around sc t.1 in
        ((a.0, b.0), (a.1, b.1))

    implies_good : (f : NamedFormula) (gs : List NamedFormula) → IsGood scope f → AllGood scope gs
        → IsGood scope (implies f gs)
    implies_good f [] h k = h
    implies_good f (g ∷ gs) h k = implication_good f (implies g gs) h (implies_good g gs k.0 k.1)

    implied_by_good : (f : NamedFormula) (gs : List NamedFormula) → IsGood scope f → AllGood scope gs
        → IsGood scope (implied_by f gs)
    implied_by_good f [] h k = h
    implied_by_good f (g ∷ gs) h k =
        implied_by_good (named.implication g f) gs (implication_good g f k.0 h) k.1

    equivalent_good : (f : NamedFormula) (gs : List NamedFormula) → IsGood scope f → AllGood scope gs
        → IsGood scope (equivalent f gs)
    equivalent_good f [] h k = h
    equivalent_good f (g ∷ gs) h k =
        equivalent_good (named.equivalence f g) gs (equivalence_good f g h k.0) k.1

    pub grouped_good : (a : Arrow) (f : NamedFormula) (gs : List NamedFormula) → IsGood scope f → AllGood scope gs
        → IsGood scope (grouped a f gs)
    grouped_good arrow.Implies f gs h k = implies_good f gs h k
    grouped_good arrow.ImpliedBy f gs h k = implied_by_good f gs h k
    grouped_good arrow.Equivalent f gs h k = equivalent_good f gs h k

    -- ---- lists of operands

    pub conjunction_good : (g : NamedFormula) (gs : NamedFormulas) → IsGood scope g → AreGood scope gs
        → ((around : List (Option ℕ)) → HasFormula (typed_formulas v around gs))
        → IsGood scope (named.conjunction (more_formulas g gs))
    conjunction_good g gs h k some around sc t =
        both_spoken v names scope (typed_formula v around g) (typed_formulas v around gs) (h around sc t.0)
        (formulas_spoken scope around sc gs k t.1) (some around)

    pub disjunction_good : (g : NamedFormula) (gs : NamedFormulas) → IsGood scope g → AreGood scope gs
        → ((around : List (Option ℕ)) → HasFormula (typed_formulas v around gs))
        → IsGood scope (named.disjunction (more_formulas g gs))
    disjunction_good g gs h k some around sc t =
        one_spoken v names scope (typed_formula v around g) (typed_formulas v around gs) (h around sc t.0)
        (formulas_spoken scope around sc gs k t.1) (some around)

    pub comparison_good : (c : Cmp) (x y : NamedTerm) → TermIsGood scope x → TermIsGood scope y
        → IsGood scope (named.comparison c x y)
    comparison_good c x y h k around sc t =
        let a = h around sc t.0 in
        let b = k around sc t.1 in
        ((a.0, b.0), (a.1, b.1))

    pub sum_good : (t : NamedTerm) (ss : NamedSummands) → TermIsGood scope t → SummandsAreGood scope ss
        → ((around : List (Option ℕ)) → HasSummand (typed_summands v around ss))
        → NodeIsGood scope (named.summation (more_summands false t ss))
    sum_good t ss h k some around sc typed =
        sum_spoken v names scope (typed_term v around t) (typed_summands v around ss) (h around sc typed.0)
        (summands_spoken scope around sc ss k typed.2) (some around)

    pub times_good : (t : NamedTerm) (ts : NamedTerms) → TermIsGood scope t → TermsAreGood scope ts
        → ((around : List (Option ℕ)) → HasTerm (typed_terms v around ts))
        → NodeIsGood scope (named.product (more_terms t ts))
    times_good t ts h k some around sc typed =
        product_spoken v names scope (typed_term v around t) (typed_terms v around ts) (h around sc typed.0)
        (factors_spoken scope around sc ts k typed.2) (some around)

    pub minus_good : (t : NamedTerm) → TermIsGood scope t
        → NodeIsGood scope (named.summation (more_summands true t no_summands))
    minus_good t h around sc typed = negative_spoken v names scope (typed_term v around t) (h around sc typed.0)

    -- ---- words where they stand

    module _ (w : Text) (n : ℕ) (us : NamedTerms)
        (count : (around : List (Option ℕ)) → tms_count (speak_tms v scope (typed_terms v around us)) ≡ n)
        (good : TermsAreGood scope us) (written : IsName w) where
      pub atom_good : (m : Meaning) → meaning_at names scope (name w 0) n ≡ m → IsCalledAt v scope w n m
          → is_undeclared m ≡ false → is_no_formula m n ≡ false → is_type m ≡ false
          → IsGood scope (named.atom (predicate_number m) us)
      atom_good undeclared means called known right supported = absurd (true≢false known)
      atom_good integers means called known right supported = absurd (true≢false supported)
      atom_good naturals means called known right supported = absurd (true≢false supported)
      atom_good (a_type t) means called known right supported = absurd (true≢false supported)
      atom_good (predicate s j) means called known right supported = λ around sc t.
          let ts = typed_terms v around us in
          let spoken = places_spoken scope around sc us t.0.args good t.3 in
          let word : symbol_word v (within_count 1024 s) ≡ w = ap (symbol_word v) (kept s 1024 called.1) ∙ called.0 in
          let again =
          ap (λ (x : Text). predicate_number (meaning_at names scope (name x 0) (tms_count (speak_tms v scope ts))))
          word
          ∙ ap (λ (k : ℕ). predicate_number (meaning_at names scope (name w 0) k)) (count around)
          ∙ ap predicate_number means in (
            (again, said_terms v names scope ts spoken),
            (subst IsName (sym word) written, are_tms v names scope ts spoken),
          )
      atom_good (function s j) means called known right supported = absurd (true≢false right)
      atom_good (made t i) means called known right supported = absurd (true≢false right)
      atom_good (variable level) means called known right supported = absurd (true≢false right)

      -- where it has no arguments
      alone : n ≡ 0 → (m : Meaning) → meaning_at names scope (name w 0) n ≡ m → (x : Text) → x ≡ w
          → node_meaning (meaning_at names scope (name x 0) 0) tree.no_terms ≡ node_meaning m tree.no_terms
      alone none m means x same =
          ap (λ (y : Text). node_meaning (meaning_at names scope (name y 0) 0) tree.no_terms) same
          ∙ ap (λ (k : ℕ). node_meaning (meaning_at names scope (name w 0) k) tree.no_terms) (sym none)
          ∙ ap (λ (y : Meaning). node_meaning y tree.no_terms) means

      pub node_good : (m : Meaning) → meaning_at names scope (name w 0) n ≡ m → IsCalledAt v scope w n m
          → is_undeclared m ≡ false → is_no_term m n ≡ false → is_type m ≡ false → NodeIsGood scope (node_of m us)
      node_good undeclared means called known right supported = absurd (true≢false known)
      node_good integers means called known right supported = absurd (true≢false supported)
      node_good naturals means called known right supported = absurd (true≢false supported)
      node_good (a_type t) means called known right supported = absurd (true≢false supported)
      node_good (predicate s j) means called known right supported = absurd (true≢false right)
      node_good (function s j) means called known right supported = λ around sc t.
          let ts = typed_terms v around us in
          let spoken = arguments_spoken scope around sc us t.0.args good t.3 in
          let word : symbol_word v (within_count 1024 s) ≡ w = ap (symbol_word v) (kept s 1024 called.1) ∙ called.0 in
          let again =
          ap (λ (x : Text). node_meaning (meaning_at names scope (name x 0) (tms_count (speak_tms v scope ts))) ts) word
          ∙ ap (λ (k : ℕ). node_meaning (meaning_at names scope (name w 0) k) ts) (count around)
          ∙ ap (λ (y : Meaning). node_meaning y ts) means in (
            (again, said_terms v names scope ts spoken),
            (subst IsName (sym word) written, are_tms v names scope ts spoken),
          )
      node_good (made t i) means called known right supported = λ around sc h.
          let none : n ≡ 0 = eqb-true n 0 (not-false (n == 0) right) in
          let word : made_in (slice_get v.types (within_count 256 t)) (within_count 65536 i) ≡ w =
          ap (λ (k : ℕ). made_in (slice_get v.types k) (within_count 65536 i)) (kept t 256 called.1)
          ∙ ap (made_in (slice_get v.types t)) (kept i 65536 called.2) ∙ called.0 in
          (alone none (made t i) means _ word, (subst IsName (sym word) written, tt))
      node_good (variable level) means called known right supported = λ around sc h.
          (alone called.1 (variable level) means _ called.0, (subst IsName (sym called.0) written, tt))

  -- ---- quantifiers, where the name of each type means the type and can be written

  module _ (again : (t : ℕ) → t < length v.types → type_number (meaning_of names (type_word v t)) ≡ t)
      (written : (t : ℕ) → t < length v.types → IsName (type_word v t))
      (scope : List Text) (vs : Vars) (spelled : AllByRecursion (λ x. IsName (var_text x)) (vars_in vs)) where
    -- the scope of a list of variables
    same_scope : (around : List (Option ℕ)) (ps : List Part)
        → within scope vs ≡ scope ++ bound_names (typed_vars v.types around (named_vars names vs) ps)
    same_scope around ps =
        ap (λ (ns : List Text). scope ++ ns)
        (sym (names_kept names v.types (inside v.types around (named_vars names vs) ps) (parts_of ps) (length around)
        (vars_in vs)))

    named_in : (around : List (Option ℕ)) (ps : List Part)
        → AreNamed (typed_vars v.types around (named_vars names vs) ps)
    named_in around ps =
        bounds_named names v.types (inside v.types around (named_vars names vs) ps) (parts_of ps) (length around)
        (vars_in vs) spelled

    some_in : (around : List (Option ℕ)) (ps : List Part) → typed_vars v.types around (named_vars names vs) ps ≢ []
    some_in around ps =
        some_bounds names v.types (inside v.types around (named_vars names vs) ps) (parts_of ps) (length around) vs

    body_in : (around : List (Option ℕ)) (ps : List Part) (f : tree.FormulaTree)
        → IsSpokenHere v names (within scope vs) f
        → IsSpokenHere v names (scope ++ bound_names (typed_vars v.types around (named_vars names vs) ps)) f
    body_in around ps f h = subst (λ (s : List Text). IsSpokenHere v names s f) (same_scope around ps) h

    term_in : (around : List (Option ℕ)) (ps : List Part) (t : tree.TermTree)
        → TermIsSpoken v names (within scope vs) t
        → TermIsSpoken v names (scope ++ bound_names (typed_vars v.types around (named_vars names vs) ps)) t
    term_in around ps t h = subst (λ (s : List Text). TermIsSpoken v names s t) (same_scope around ps) h

    -- the variables of the list with their types; the types of all in scope, as the stage of types has found them
    -- there, and at last
    abbrev BoundHere : List (Option ℕ) → List Part → List Bound
    BoundHere around ps = typed_vars v.types around (named_vars names vs) ps

    abbrev FoundHere : List (Option ℕ) → List Part → List (Option ℕ)
    FoundHere around ps = inside v.types around (named_vars names vs) ps

    abbrev TypesHere : List (Option ℕ) → List ℕ → List Part → List ℕ
    TypesHere around sc ps = sc ++ types_of (typed_vars v.types around (named_vars names vs) ps)

    pub every_good : (g : NamedFormula) → IsGood (within scope vs) g
        → IsGood scope (named.universal (named_vars names vs) g)
    every_good g h around sc t =
        let ps = formula_parts v.symbols g in
        let body = typed_formula v (FoundHere around ps) g in
        every_spoken v names again written scope (BoundHere around ps) body (some_in around ps) (named_in around ps) t.0
        (body_in around ps body (h (FoundHere around ps) (TypesHere around sc ps) t.1))

    some_good : (g : NamedFormula) → IsGood (within scope vs) g
        → IsGood scope (named.existential (named_vars names vs) g)
    some_good g h around sc t =
        let ps = formula_parts v.symbols g in
        let body = typed_formula v (FoundHere around ps) g in
        some_spoken v names again written scope (BoundHere around ps) body (some_in around ps) (named_in around ps) t.0
        (body_in around ps body (h (FoundHere around ps) (TypesHere around sc ps) t.1))

    so_many_good : (c : Cmp) (n : ℕ) (g : NamedFormula) → CountsBy (sign_of c) → IsGood (within scope vs) g
        → IsGood scope (named.numbered c n (named_vars names vs) g)
    so_many_good c n g k h around sc t =
        let ps = formula_parts v.symbols g in
        let body = typed_formula v (FoundHere around ps) g in
        so_many_spoken v names again written scope c (integer_of n) (BoundHere around ps) body k (integer_kept n)
        (integer_low n) (some_in around ps) (named_in around ps) t.0
        (body_in around ps body (h (FoundHere around ps) (TypesHere around sc ps) t.1))

    pub counted_good : (n : Number) (g : NamedFormula) → FineNumber n → IsGood (within scope vs) g
        → IsGood scope (counted_by n (named_vars names vs) g)
    counted_good raw.any g k h = some_good g h
    counted_good (raw.exactly n p) g k h = so_many_good (comparison_of cmp.Equal) n g tt h
    counted_good (raw.compared c p n q) g k h = so_many_good (comparison_of c) n g (counts c p n q k) h

    pub count_good : (p : ℕ) (g : NamedFormula) → IsGood (within scope vs) g
        → NodeIsGood scope (named.aggregate kind.Count (named_vars names vs) g (at p (named.integer 1)))
    count_good p g h around sc t =
        let ps = aggregate_parts v.symbols g (at p (named.integer 1)) in
        let body = typed_formula v (FoundHere around ps) g in
        count_spoken v names again written scope (BoundHere around ps) body (some_in around ps) (named_in around ps) t.0
        (body_in around ps body (h (FoundHere around ps) (TypesHere around sc ps) t.1))

    pub aggregate_good : (how : AggKind) (g : NamedFormula) (w : NamedTerm) → IsWeighed how → IsGood (within scope vs) g
        → TermIsGood (within scope vs) w → NodeIsGood scope (named.aggregate how (named_vars names vs) g w)
    aggregate_good how g w k h l around sc t =
        let ps = aggregate_parts v.symbols g w in
        let body = typed_formula v (FoundHere around ps) g in
        let weight = typed_term v (FoundHere around ps) w in
        aggregate_spoken v names again written scope how (BoundHere around ps) body weight k (some_in around ps)
        (named_in around ps) t.0 (body_in around ps body (h (FoundHere around ps) (TypesHere around sc ps) t.1))
        (term_in around ps weight (l (FoundHere around ps) (TypesHere around sc ps) t.2))
