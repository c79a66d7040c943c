-- Well-typed terms have values in their types, and each of their functions is applied within its types.
use Rattle.std.proofs.Common.{◌≡◌, ◌<◌, ◌⊎◌, ◌+ℤ◌, ℕ, zero, suc, pos, neg_ℤ, List, [], ◌∷◌, ◌++◌, map, length, true}
use Rattle.std.proofs.Common.{Option, Some, None, option_map, refl, sym, ap, ◌∙◌, subst, arith, inl, inr, slice_get}
use Rattle.std.specs.List.{Contains}
use Rattle.std.specs.Option.{option_and_then}
use Rattle.std.proofs.lemmas.Bool.{and_from}
use Rattle.std.proofs.lemmas.Int.{ints}
use Rattle.kb_logic.specs.declared.elements.Elem.{Elem}
use Rattle.kb_logic.specs.declared.elements.Elem.TheVariants.{Named, Num}
use Rattle.kb_logic.specs.declared.vocabularies.Bound.{Bound}
use Rattle.kb_logic.specs.declared.vocabularies.Symbol.{Symbol}
use Rattle.kb_logic.specs.declared.vocabularies.TypeDecl.{TypeDecl}
use Rattle.kb_logic.specs.declared.vocabularies.Vocabulary.{Vocabulary}
use Rattle.kb_logic.specs.declared.structures.Structure.{Structure}
use Rattle.kb_logic.specs.Trees.{TermTree, variable, integer, constructed, application, summation, product, aggregate}
use Rattle.kb_logic.specs.Trees.{TermTrees, no_terms, more_terms, SummandTrees, no_summands, more_summands, FormulaTree}
use Rattle.kb_logic.specs.Trees.{verum, falsum, atom, comparison, negation, conjunction, disjunction, implication}
use Rattle.kb_logic.specs.Trees.{equivalence, universal, existential, numbered, FormulaTrees, no_formulas}
use Rattle.kb_logic.specs.Trees.{more_formulas}
use Rattle.kb_logic.specs.Structures.{domain_at, EachWith, IsStructure}
use Rattle.kb_logic.specs.Bounds.{types_of, HasTypes}
use Rattle.kb_logic.specs.Denotations.{Denotation, number, denotation_of}
use Rattle.kb_logic.specs.Domains.{IsUnder, IsDomainOf, AreDomainsOf}
use Rattle.kb_logic.specs.KnownAtoms.{known_of}
use Rattle.kb_logic.specs.Meaning.{assignments, element_value, rows_of, applied, value_of, values_of}
use Rattle.kb_logic.specs.Typing.{IsBelow, itself, under, Sort, element_of, arithmetic, sort_of, IsElementBelow}
use Rattle.kb_logic.specs.Typing.{IsIntegerSuch, IsIntegerIn, TermIsTyped, ArgumentsAreTyped, PlacesAreTyped}
use Rattle.kb_logic.specs.Typing.{FactorsAreTyped, OperandsAreTyped, FormulaIsTyped, AllAreTyped}
use Rattle.kb_logic.proofs.Choices.{is_choice}
use Rattle.kb_logic.proofs.Has.{has_from, has_get, contains_from}
use Rattle.kb_logic.proofs.Members.{all_in, in_all}
use Rattle.kb_logic.proofs.WithinBounds.{choice_types, types-append}
use Rattle.partial_structures.specs.Applications.{stands_in, are_typed}
use Rattle.certain_truth.specs.WellApplied.{IsNoFunction, AppliesWell, AllApplyWell, OperandsApplyWell, IsWellApplied}
use Rattle.certain_truth.specs.WellApplied.{AreWellApplied}
use Rattle.certain_truth.specs.Laws.{TypedIsWellApplied}
use Rattle.certain_truth.proofs.Soundness.{held_value, row_at}
use Rattle.certain_truth.proofs.Total.{extends_itself}
use Rattle.partial_structures.proofs.Walks.{stands_is, tuple_from}

-- the domain of a declared type is as its declaration asks
domain_is : (R : TypeDecl → List Elem → Type 0) (xs : List TypeDecl) (ds : List (List Elem)) (t : ℕ) (d : TypeDecl)
    → EachWith R xs ds → slice_get xs t ≡ Some d → R d (domain_at ds t)
domain_is R [] ds t d h at = absurd cc
domain_is R (x ∷ xs) [] t d h at = absurd h
domain_is R (x ∷ xs) (y ∷ ds) zero d h at = let same : x ≡ d = cc in subst (λ z. R z y) same h.0
domain_is R (x ∷ xs) (y ∷ ds) (suc t) d h at = domain_is R xs ds t d h.1 at

-- the element of a variable
variable_at : (domains : List (List Elem)) (scope : List ℕ) (e : List Elem) (n ty : ℕ) → HasTypes domains scope e
    → slice_get scope n ≡ Some ty → (x : Elem) × Contains (domain_at domains ty) x × (slice_get e n ≡ Some x)
variable_at domains [] e n ty h at = absurd cc
variable_at domains (t ∷ scope) [] n ty h at = absurd h
variable_at domains (t ∷ scope) (x ∷ e) zero ty h at = let same : t ≡ ty = cc in
    (x, subst (λ u. Contains (domain_at domains u) x) same h.0, refl)
variable_at domains (t ∷ scope) (x ∷ e) (suc n) ty h at = variable_at domains scope e n ty h.1 at

-- a constructed name stands at its position
name_at : (names : List (List ℕ)) (n : ℕ) → n < length names
    → (q : List ℕ) × (slice_get (map Named names) n ≡ Some (Named q))
name_at [] n h = absurd (omega (arith, h))
name_at (q ∷ names) zero h = (q, refl)
name_at (q ∷ names) (suc n) h = name_at names n (omega (arith, h))

some_name : (names : List (List ℕ)) (n : ℕ) → n < length names → names ≡ [] → ⊥
some_name [] n h e = absurd (omega (arith, h))
some_name (q ∷ names) n h e = absurd cc

type_is : (t u : ℕ) → Some (element_of t) ≡ Some (element_of u) → t ≡ u
type_is t u h = cc

no_type : (u : ℕ) → Some arithmetic ≡ Some (element_of u) → ⊥
no_type u h = absurd cc

value_type : (o : Option ℕ) (ty : ℕ) → option_map element_of o ≡ Some (element_of ty) → o ≡ Some ty
value_type None ty h = absurd cc
value_type (Some t) ty h = cc

module _ (v : Vocabulary) (m : Structure) (is : IsStructure v m) (given : AreDomainsOf v m.domains) where
  -- an element of a type is one of each type that it is below
  below_in : (t u : ℕ) (x : Elem) → IsBelow v t u → Contains (domain_at m.domains t) x
      → Contains (domain_at m.domains u) x
  below_in t u x (itself w) at = at
  below_in t u x (under a p b d declared parent below) at =
      let above = all_in (IsUnder m.domains d.parent) (domain_at m.domains a)
      (domain_is (IsDomainOf m.domains) v.types m.domains a d given declared).parent x at in
      below_in p b x below (subst (λ q. IsUnder m.domains q x) parent above)

  -- a function has a value in its type at arguments in theirs
  function_at : (s : ℕ) (d : Symbol) (ty : ℕ) (us : List Denotation) → slice_get v.symbols s ≡ Some d
      → d.value ≡ Some ty → are_typed m.domains d.args us ≡ true
      → (x : Elem) × Contains (domain_at m.domains ty) x × (applied (rows_of s m.functions) us ≡ denotation_of x)
  function_at s d ty us declared value typed =
      let known = known_of v.symbols m in
      let itself_ = extends_itself v m is in
      let t = tuple_from m.domains d.args us typed in
      let y = row_at m known v refl is itself_ s d ty t.0 declared value t.1 in (
        y.0,
        y.1,
        subst (λ ws. applied (rows_of s m.functions) ws ≡ denotation_of y.0) t.2
            (held_value m known v refl is itself_ s t.0 y.0 y.2),
      )

  inside : (bs : List Bound) (scope : List ℕ) (e a : List Elem) → HasTypes m.domains scope e
      → Contains (assignments m bs) a → HasTypes m.domains (scope ++ types_of bs) (e ++ a)
  inside bs scope e a h at = types-append m.domains scope (types_of bs) e a h
      (choice_types m bs a (is_choice m bs a at))

  stands : (u : Denotation) (ty : ℕ) → (x : Elem) × Contains (domain_at m.domains ty) x × (u ≡ denotation_of x)
      → stands_in (domain_at m.domains ty) u ≡ true
  stands u ty r = ap (stands_in (domain_at m.domains ty)) r.2 ∙ stands_is (domain_at m.domains ty) r.0
      (has_from (domain_at m.domains ty) r.0 r.1)

  integer_at : (t : TermTree) (e : List Elem) (ty : ℕ) → IsIntegerSuch (IsIntegerIn m.domains ty) t
      → (x : Elem) × Contains (domain_at m.domains ty) x × (value_of m t e ≡ denotation_of x)
  integer_at t e ty (z, inl plain) = (Num z, plain.1, ap (λ u. value_of m u e) plain.0)
  integer_at t e ty (z, inr minus) =
      let same : neg_ℤ z +ℤ pos 0 ≡ neg_ℤ z = omega (arith, ints) in
      (Num (neg_ℤ z), minus.1, ap (λ u. value_of m u e) minus.0 ∙ ap number same)

  below_at : (o : Option Sort) (u : Denotation) (ty : ℕ) → ((t : ℕ) → o ≡ Some (element_of t)
      → (x : Elem) × Contains (domain_at m.domains t) x × (u ≡ denotation_of x)) → IsElementBelow v o ty
      → (x : Elem) × Contains (domain_at m.domains ty) x × (u ≡ denotation_of x)
  below_at None u ty element below = absurd below
  below_at (Some (element_of t)) u ty element below = let r = element t refl in (r.0, below_in t ty r.0 below r.1, r.2)
  below_at (Some arithmetic) u ty element below = absurd below

  argument_at : (t : TermTree) (scope : List ℕ) (e : List Elem) (ty : ℕ)
      → ((u : ℕ) → sort_of v t scope ≡ Some (element_of u) → (x : Elem) × Contains (domain_at m.domains u) x
      × (value_of m t e ≡ denotation_of x))
      → IsElementBelow v (sort_of v t scope) ty ⊎ IsIntegerSuch (IsIntegerIn m.domains ty) t
      → (x : Elem) × Contains (domain_at m.domains ty) x × (value_of m t e ≡ denotation_of x)
  argument_at t scope e ty element (inl below) = below_at (sort_of v t scope) (value_of m t e) ty element below
  argument_at t scope e ty element (inr literal) = integer_at t e ty literal

  mutual
    element_at : (t : TermTree) (scope : List ℕ) (e : List Elem) (ty : ℕ) → HasTypes m.domains scope e
        → TermIsTyped v (IsIntegerIn m.domains) t scope → sort_of v t scope ≡ Some (element_of ty)
        → (x : Elem) × Contains (domain_at m.domains ty) x × (value_of m t e ≡ denotation_of x)
    element_at (variable n) scope e ty h typed sort =
        let r = variable_at m.domains scope e n ty h (value_type (slice_get scope n) ty sort) in
        (r.0, r.1, ap element_value r.2)
    element_at (integer z) scope e ty h typed sort = absurd (no_type ty sort)
    element_at (constructed k n) scope e ty h typed sort =
        let same = type_is k ty sort in
        let domain = domain_is (IsDomainOf m.domains) v.types m.domains k typed.0 given typed.1 in
        let name = name_at typed.0.made n typed.2 in
        let at : slice_get (domain_at m.domains k) n ≡ Some (Named name.0) =
        ap (λ d. slice_get d n) (domain.names (some_name typed.0.made n typed.2)) ∙ name.1 in (
          Named name.0,
          subst (λ u. Contains (domain_at m.domains u) (Named name.0)) same
              (contains_from (domain_at m.domains k) (Named name.0) (has_get (domain_at m.domains k) n
              (Named name.0) at)),
          ap element_value at,
        )
    element_at (application s ts) scope e ty h typed sort =
        let value : typed.0.value ≡ Some ty = value_type typed.0.value ty
        (ap (λ o. option_map element_of (option_and_then (λ (t : Symbol). t.value) o)) (sym typed.1) ∙ sort) in
        function_at s typed.0 ty (values_of m ts e) typed.1 value (arguments_typed ts typed.0.args scope e h typed.3)
    element_at (summation ss) scope e ty h typed sort = absurd (no_type ty sort)
    element_at (product ts) scope e ty h typed sort = absurd (no_type ty sort)
    element_at (aggregate k bs f t) scope e ty h typed sort = absurd (no_type ty sort)

    arguments_typed : (ts : TermTrees) (types scope : List ℕ) (e : List Elem) → HasTypes m.domains scope e
        → ArgumentsAreTyped v (IsIntegerIn m.domains) ts types scope
        → are_typed m.domains types (values_of m ts e) ≡ true
    arguments_typed no_terms [] scope e h typed = refl
    arguments_typed no_terms (ty ∷ types) scope e h typed = absurd typed
    arguments_typed (more_terms t ts) [] scope e h typed = absurd typed
    arguments_typed (more_terms t ts) (ty ∷ types) scope e h typed =
        and_from (stands_in (domain_at m.domains ty) (value_of m t e)) (are_typed m.domains types (values_of m ts e))
        (stands (value_of m t e) ty (argument_at t scope e ty (λ u sort. element_at t scope e u h typed.0 sort)
        typed.1)) (arguments_typed ts types scope e h typed.2)

  mutual
    term_applies : (t : TermTree) (scope : List ℕ) (e : List Elem) → HasTypes m.domains scope e
        → TermIsTyped v (IsIntegerIn m.domains) t scope → AppliesWell v.symbols m t e
    term_applies (variable n) scope e h typed = tt
    term_applies (integer z) scope e h typed = tt
    term_applies (constructed ty n) scope e h typed = tt
    term_applies (application s ts) scope e h typed = (
      arguments_apply ts typed.0.args scope e h typed.3,
      (
        typed.0,
        typed.1,
        typed.2,
        arguments_typed ts typed.0.args scope e h typed.3,
      ),
    )
    term_applies (summation ss) scope e h typed = operands_apply ss scope e h typed
    term_applies (product ts) scope e h typed = factors_apply ts scope e h typed
    term_applies (aggregate k bs f t) scope e h typed =
        in_all (λ a. IsWellApplied v.symbols m f (e ++ a) × AppliesWell v.symbols m t (e ++ a))
        (assignments m bs) (λ a at.
        let inner = inside bs scope e a h at in (
          formula_applies f (scope ++ types_of bs) (e ++ a) inner typed.1,
          term_applies t (scope ++ types_of bs)
              (e ++ a) inner typed.2,
        ))

    arguments_apply : (ts : TermTrees) (types scope : List ℕ) (e : List Elem) → HasTypes m.domains scope e
        → ArgumentsAreTyped v (IsIntegerIn m.domains) ts types scope → AllApplyWell v.symbols m ts e
    arguments_apply no_terms [] scope e h typed = tt
    arguments_apply no_terms (ty ∷ types) scope e h typed = absurd typed
    arguments_apply (more_terms t ts) [] scope e h typed = absurd typed
    arguments_apply (more_terms t ts) (ty ∷ types) scope e h typed =
        (term_applies t scope e h typed.0, arguments_apply ts types scope e h typed.2)

    places_apply : (ts : TermTrees) (types scope : List ℕ) (e : List Elem) → HasTypes m.domains scope e
        → PlacesAreTyped v (IsIntegerIn m.domains) ts types scope → AllApplyWell v.symbols m ts e
    places_apply no_terms [] scope e h typed = tt
    places_apply no_terms (ty ∷ types) scope e h typed = absurd typed
    places_apply (more_terms t ts) [] scope e h typed = absurd typed
    places_apply (more_terms t ts) (ty ∷ types) scope e h typed =
        (term_applies t scope e h typed.0, places_apply ts types scope e h typed.2)

    factors_apply : (ts : TermTrees) (scope : List ℕ) (e : List Elem) → HasTypes m.domains scope e
        → FactorsAreTyped v (IsIntegerIn m.domains) ts scope → AllApplyWell v.symbols m ts e
    factors_apply no_terms scope e h typed = tt
    factors_apply (more_terms t ts) scope e h typed = (
      term_applies t scope e h typed.0,
      factors_apply ts scope e h typed.2,
    )

    operands_apply : (ss : SummandTrees) (scope : List ℕ) (e : List Elem) → HasTypes m.domains scope e
        → OperandsAreTyped v (IsIntegerIn m.domains) ss scope → OperandsApplyWell v.symbols m ss e
    operands_apply no_summands scope e h typed = tt
    operands_apply (more_summands minus t ss) scope e h typed =
        (term_applies t scope e h typed.0, operands_apply ss scope e h typed.2)

    formula_applies : (f : FormulaTree) (scope : List ℕ) (e : List Elem) → HasTypes m.domains scope e
        → FormulaIsTyped v (IsIntegerIn m.domains) f scope → IsWellApplied v.symbols m f e
    formula_applies verum scope e h typed = tt
    formula_applies falsum scope e h typed = tt
    formula_applies (atom s ts) scope e h typed = (
      places_apply ts typed.0.args scope e h typed.3,
      subst IsNoFunction (sym typed.1) typed.2,
    )
    formula_applies (comparison c a b) scope e h typed = (
      term_applies a scope e h typed.0,
      term_applies b scope e h typed.1,
    )
    formula_applies (negation f) scope e h typed = formula_applies f scope e h typed
    formula_applies (conjunction fs) scope e h typed = formulas_apply fs scope e h typed
    formula_applies (disjunction fs) scope e h typed = formulas_apply fs scope e h typed
    formula_applies (implication f g) scope e h typed = (
      formula_applies f scope e h typed.0,
      formula_applies g scope e h typed.1,
    )
    formula_applies (equivalence f g) scope e h typed = (
      formula_applies f scope e h typed.0,
      formula_applies g scope e h typed.1,
    )
    formula_applies (universal bs f) scope e h typed =
        in_all (λ a. IsWellApplied v.symbols m f (e ++ a)) (assignments m bs)
        (λ a at. formula_applies f (scope ++ types_of bs) (e ++ a) (inside bs scope e a h at) typed.1)
    formula_applies (existential bs f) scope e h typed =
        in_all (λ a. IsWellApplied v.symbols m f (e ++ a)) (assignments m bs)
        (λ a at. formula_applies f (scope ++ types_of bs) (e ++ a) (inside bs scope e a h at) typed.1)
    formula_applies (numbered c n bs f) scope e h typed =
        in_all (λ a. IsWellApplied v.symbols m f (e ++ a)) (assignments m bs)
        (λ a at. formula_applies f (scope ++ types_of bs) (e ++ a) (inside bs scope e a h at) typed.1)

    formulas_apply : (fs : FormulaTrees) (scope : List ℕ) (e : List Elem) → HasTypes m.domains scope e
        → AllAreTyped v (IsIntegerIn m.domains) fs scope → AreWellApplied v.symbols m fs e
    formulas_apply no_formulas scope e h typed = tt
    formulas_apply (more_formulas f fs) scope e h typed = (
      formula_applies f scope e h typed.0,
      formulas_apply fs scope e h typed.1,
    )

pub typed_is_well_applied : TypedIsWellApplied
typed_is_well_applied v m is given scope e h = (
  λ f typed. formula_applies v m is given f scope e h typed,
  λ t typed. term_applies v m is given t scope e h typed,
  λ t ty typed sort. element_at v m is given t scope e ty h typed sort,
)
