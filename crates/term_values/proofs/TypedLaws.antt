-- What is well typed over the domains applies its functions to elements of their argument types.
use Rattle.std.proofs.Common.{◌≡◌, ◌<◌, ◌⊎◌, ◌+◌, ℕ, zero, suc, ℤ, List, [], ◌∷◌, map, length, Option, Some, None}
use Rattle.std.proofs.Common.{option_map, is_some, IsSome, true, refl, sym, ap, ◌∙◌, subst, arith, inl, inr}
use Rattle.std.proofs.Common.{slice_get}
use Rattle.std.specs.Option.{option_and_then}
use Rattle.std.specs.List.{Contains, AllByRecursion}
use Rattle.std.proofs.lemmas.List.{length-map}
use Rattle.kb_logic.specs.declared.elements.Elem.{Elem}
use Rattle.kb_logic.specs.declared.elements.Elem.TheVariants.{Named}
use Rattle.kb_logic.specs.declared.vocabularies.Symbol.{Symbol}
use Rattle.kb_logic.specs.declared.vocabularies.TypeDecl.{TypeDecl}
use Rattle.kb_logic.specs.declared.vocabularies.Vocabulary.{Vocabulary}
use Rattle.kb_logic.specs.Trees.{TermTree, variable, integer, constructed, application, summation, product, aggregate}
use Rattle.kb_logic.specs.Trees.{TermTrees, no_terms, more_terms, SummandTrees, no_summands, more_summands}
use Rattle.kb_logic.specs.Structures.{IsDistinct, EachWith, domain_at, tuples_of}
use Rattle.kb_logic.specs.Bounds.{value_type_of}
use Rattle.kb_logic.specs.Domains.{IsUnder, IsDomainOf, AreDomainsOf}
use Rattle.kb_logic.specs.Typing.{IsBelow, itself, under, element_of, sort_of, IsElementBelow}
use Rattle.kb_logic.specs.Typing.{IsIntegerSuch, IsIntegerIn, TermIsTyped, ArgumentsAreTyped, PlacesAreTyped}
use Rattle.kb_logic.specs.Typing.{FactorsAreTyped, OperandsAreTyped}
use Rattle.kb_logic.proofs.Atoms.{tuple_elements}
use Rattle.kb_logic.proofs.Members.{all_in, in_all}
use Rattle.term_values.specs.GroundBases.{GroundBase}
use Rattle.term_values.specs.KnownBases.{IsGroundBase}
use Rattle.term_values.specs.GroundTerms.{terms_number, IsFunctionOf, IsGroundTerm, AreGroundTerms, AreGroundSummands}
use Rattle.term_values.specs.GroundTerms.{TermHasNoCounting, TermsHaveNoCounting, SummandsHaveNoCounting}
use Rattle.term_values.specs.GroundTerms.{without, all_without, operands_without}
use Rattle.term_values.proofs.ArgumentTypes.{IsOfType, IsTypedTerm, AreTypedTerms, AreTypedSummands}
use Rattle.term_values.proofs.ArgumentTypes.{AreArguments}
use Rattle.term_values.proofs.StructureAtoms.{tuples-are}

-- domains as a vocabulary asks for them
same-number : {A B : Type 0} (R : A → B → Type 0) (xs : List A) (ys : List B) → EachWith R xs ys → length ys ≡ length xs
same-number R [] [] h = refl
same-number R [] (y ∷ ys) h = absurd h
same-number R (x ∷ xs) [] h = absurd h
same-number R (x ∷ xs) (y ∷ ys) h = ap suc (same-number R xs ys h.1)

each-distinct : (domains : List (List Elem)) (ts : List TypeDecl) (ds : List (List Elem))
    → EachWith (IsDomainOf domains) ts ds → AllByRecursion IsDistinct ds
each-distinct domains [] [] h = tt
each-distinct domains [] (d ∷ ds) h = absurd h
each-distinct domains (t ∷ ts) [] h = absurd h
each-distinct domains (t ∷ ts) (d ∷ ds) h = (h.0.distinct, each-distinct domains ts ds h.1)

pub domains-ground : (b : GroundBase) → AreDomainsOf b.vocabulary b.domains → IsGroundBase b
domains-ground b h = record {
  types = same-number (IsDomainOf b.domains) b.vocabulary.types b.domains h;
  distinct = each-distinct b.domains b.vocabulary.types b.domains h;
}

domain-is : (R : TypeDecl → List Elem → Type 0) (xs : List TypeDecl) (ds : List (List Elem)) (t : ℕ) (d : TypeDecl)
    → EachWith R xs ds → slice_get xs t ≡ Some d → R d (domain_at ds t)
domain-is R [] ds t d h at = absurd cc
domain-is R (x ∷ xs) [] t d h at = absurd h
domain-is R (x ∷ xs) (y ∷ ds) zero d h at = let same : x ≡ d = cc in subst (λ z. R z y) same h.0
domain-is R (x ∷ xs) (y ∷ ds) (suc t) d h at = domain-is R xs ds t d h.1 at

some-name : (names : List (List ℕ)) (n : ℕ) → n < length names → names ≡ [] → ⊥
some-name [] n h e = absurd (omega (arith, h))
some-name (q ∷ names) n h e = absurd cc

a-type : (o : Option ℕ) → is_some o ≡ true → (ty : ℕ) × (o ≡ Some ty)
a-type None h = absurd cc
a-type (Some ty) h = (ty, refl)

module _ (v : Vocabulary) (domains : List (List Elem)) (given : AreDomainsOf v domains) where
  below-in : (t u : ℕ) (x : Elem) → IsBelow v t u → Contains (domain_at domains t) x → Contains (domain_at domains u) x
  below-in t u x (itself w) at = at
  below-in t u x (under a p c d declared parent below) at =
      let above = all_in (IsUnder domains d.parent) (domain_at domains a)
      (domain-is (IsDomainOf domains) v.types domains a d given declared).parent x at in
      below-in p c x below (subst (λ q. IsUnder domains q x) parent above)

  -- an argument of a type below its position's, or an integer of it
  of-below : (t : TermTree) (scope : List ℕ) (ty : ℕ) → TermIsTyped v (IsIntegerIn domains) t scope
      → IsElementBelow v (sort_of v t scope) ty → IsOfType v domains scope ty t
  of-below (variable n) scope ty typed below =
      let is = subst (λ o. IsElementBelow v (option_map element_of o) ty) typed.1 below in
      (typed.0, typed.1, λ x at. below-in typed.0 ty x is at)
  of-below (integer z) scope ty typed below = absurd below
  of-below (constructed k n) scope ty typed below =
      let domain = domain-is (IsDomainOf domains) v.types domains k typed.0 given typed.1 in
      let names : domain_at domains k ≡ map Named typed.0.made = domain.names (some-name typed.0.made n typed.2) in
      let size = ap length names ∙ length-map typed.0.made Named in
      let inside = typed.2 in
      (omega (arith, size, inside), λ x at. below-in k ty x below at)
  of-below (application s ts) scope ty typed below =
      let u = a-type typed.0.value typed.2 in
      let value : value_type_of v s ≡ Some u.0 = ap (λ o. option_and_then (λ (t : Symbol). t.value) o) typed.1 ∙ u.1 in
      let is = subst (λ o. IsElementBelow v (option_map element_of o) ty) value below in
      (u.0, value, λ x at. below-in u.0 ty x is at)
  of-below (summation ss) scope ty typed below = absurd below
  of-below (product ts) scope ty typed below = absurd below
  of-below (aggregate k bs f t) scope ty typed below = absurd below

  of-integer : (t : TermTree) (scope : List ℕ) (ty : ℕ) → IsIntegerSuch (IsIntegerIn domains ty) t
      → IsOfType v domains scope ty t
  of-integer t scope ty (z, inl plain) = subst (IsOfType v domains scope ty) (sym plain.0) plain.1
  of-integer t scope ty (z, inr minus) = subst (IsOfType v domains scope ty) (sym minus.0) (z, refl, minus.1)

  of-argument : (t : TermTree) (scope : List ℕ) (ty : ℕ) → TermIsTyped v (IsIntegerIn domains) t scope
      → IsElementBelow v (sort_of v t scope) ty ⊎ IsIntegerSuch (IsIntegerIn domains ty) t
      → IsOfType v domains scope ty t
  of-argument t scope ty typed (inl below) = of-below t scope ty typed below
  of-argument t scope ty typed (inr literal) = of-integer t scope ty literal

  mutual
    pub typed-term : (t : TermTree) (scope : List ℕ) → TermIsTyped v (IsIntegerIn domains) t scope
        → IsTypedTerm v domains scope t
    typed-term (variable n) scope typed = tt
    typed-term (integer z) scope typed = tt
    typed-term (constructed ty n) scope typed = tt
    typed-term (application s ts) scope typed =
        (typed.0, typed.1, typed-arguments ts typed.0.args scope typed.3)
    typed-term (summation ss) scope typed = typed-operands ss scope typed
    typed-term (product ts) scope typed = typed-factors ts scope typed
    typed-term (aggregate k bs f t) scope typed = tt

    typed-arguments : (ts : TermTrees) (types scope : List ℕ)
        → ArgumentsAreTyped v (IsIntegerIn domains) ts types scope
        → AreArguments v domains scope types ts
    typed-arguments no_terms [] scope typed = tt
    typed-arguments no_terms (ty ∷ types) scope typed = absurd typed
    typed-arguments (more_terms t ts) [] scope typed = absurd typed
    typed-arguments (more_terms t ts) (ty ∷ types) scope typed = (
      of-argument t scope ty typed.0 typed.1,
      typed-term t scope typed.0,
      typed-arguments ts types scope typed.2,
    )

    typed-factors : (ts : TermTrees) (scope : List ℕ) → FactorsAreTyped v (IsIntegerIn domains) ts scope
        → AreTypedTerms v domains scope ts
    typed-factors no_terms scope typed = tt
    typed-factors (more_terms t ts) scope typed =
        (typed-term t scope typed.0, typed-factors ts scope typed.2)

    typed-operands : (ss : SummandTrees) (scope : List ℕ) → OperandsAreTyped v (IsIntegerIn domains) ss scope
        → AreTypedSummands v domains scope ss
    typed-operands no_summands scope typed = tt
    typed-operands (more_summands minus t ss) scope typed =
        (typed-term t scope typed.0, typed-operands ss scope typed.2)

  pub typed-places : (ts : TermTrees) (types scope : List ℕ) → PlacesAreTyped v (IsIntegerIn domains) ts types scope
      → AreTypedTerms v domains scope ts
  typed-places no_terms [] scope typed = tt
  typed-places no_terms (ty ∷ types) scope typed = absurd typed
  typed-places (more_terms t ts) [] scope typed = absurd typed
  typed-places (more_terms t ts) (ty ∷ types) scope typed =
      (typed-term t scope typed.0, typed-places ts types scope typed.2)

-- functions have the right number of arguments
arguments-number : (v : Vocabulary) (I : ℕ → ℤ → Type 0) (ts : TermTrees) (types scope : List ℕ)
    → ArgumentsAreTyped v I ts types scope → length types ≡ terms_number ts
arguments-number v I no_terms [] scope h = refl
arguments-number v I no_terms (ty ∷ types) scope h = absurd h
arguments-number v I (more_terms t ts) [] scope h = absurd h
arguments-number v I (more_terms t ts) (ty ∷ types) scope h =
    let rest = arguments-number v I ts types scope h.2 in omega (arith, rest)

-- a term in which there are no aggregates stays as it is without them
mutual
  pub without-same : (t : TermTree) → TermHasNoCounting t → without t ≡ t
  without-same (variable n) none = refl
  without-same (integer z) none = refl
  without-same (constructed ty n) none = refl
  without-same (application s ts) none = ap (application s) (all-same ts none)
  without-same (summation ss) none = ap summation (operands-same ss none)
  without-same (product ts) none = ap product (all-same ts none)
  without-same (aggregate k bs f t) none = absurd none

  pub all-same : (ts : TermTrees) → TermsHaveNoCounting ts → all_without ts ≡ ts
  all-same no_terms none = refl
  all-same (more_terms t ts) none =
      ap (λ u. more_terms u (all_without ts)) (without-same t none.0) ∙ ap (more_terms t) (all-same ts none.1)

  pub operands-same : (ss : SummandTrees) → SummandsHaveNoCounting ss → operands_without ss ≡ ss
  operands-same no_summands none = refl
  operands-same (more_summands minus t ss) none =
      ap (λ u. more_summands minus u (operands_without ss)) (without-same t none.0)
      ∙ ap (more_summands minus t) (operands-same ss none.1)

same-terms : (ts : TermTrees) → terms_number ts ≡ terms_number (all_without ts)
same-terms no_terms = refl
same-terms (more_terms t ts) = ap (λ n. 1 + n) (same-terms ts)

module _ (b : GroundBase) (I : ℕ → ℤ → Type 0) where
  function-is : (s n : ℕ) (d : Symbol) → slice_get b.vocabulary.symbols s ≡ Some d → is_some d.value ≡ true
      → length d.args ≡ n → IsFunctionOf b s n
  function-is s n d at value number = record {
    value = subst (λ o. IsSome (option_and_then (λ (t : Symbol). t.value) o)) (sym at) value;
    arity = subst (AllByRecursion (λ r. length r ≡ n)) (sym (tuples-are b s d at))
        (in_all (λ r. length r ≡ n) (tuples_of b.domains d.args)
        (λ r in-r. same-number (λ (ty : ℕ) (x : Elem). Contains (domain_at b.domains ty) x) d.args r
        (tuple_elements b.domains d.args r in-r) ∙ number));
  }

  mutual
    -- a well typed term without its aggregates is a ground term
    pub ground-without : (t : TermTree) (scope : List ℕ) → TermIsTyped b.vocabulary I t scope → IsGroundTerm b (without t)
    ground-without (variable n) scope typed = tt
    ground-without (integer z) scope typed = tt
    ground-without (constructed ty n) scope typed = tt
    ground-without (application s ts) scope typed = (
      function-is s (terms_number (all_without ts)) typed.0 typed.1 typed.2
          (arguments-number b.vocabulary I ts typed.0.args scope typed.3 ∙ same-terms ts),
      ground-arguments ts typed.0.args scope typed.3,
    )
    ground-without (summation ss) scope typed = ground-operands ss scope typed
    ground-without (product ts) scope typed = ground-factors ts scope typed
    ground-without (aggregate k bs f t) scope typed = tt

    ground-arguments : (ts : TermTrees) (types scope : List ℕ) → ArgumentsAreTyped b.vocabulary I ts types scope
        → AreGroundTerms b (all_without ts)
    ground-arguments no_terms types scope typed = tt
    ground-arguments (more_terms t ts) [] scope typed = absurd typed
    ground-arguments (more_terms t ts) (ty ∷ types) scope typed =
        (ground-without t scope typed.0, ground-arguments ts types scope typed.2)

    ground-factors : (ts : TermTrees) (scope : List ℕ) → FactorsAreTyped b.vocabulary I ts scope
        → AreGroundTerms b (all_without ts)
    ground-factors no_terms scope typed = tt
    ground-factors (more_terms t ts) scope typed = (ground-without t scope typed.0, ground-factors ts scope typed.2)

    ground-operands : (ss : SummandTrees) (scope : List ℕ) → OperandsAreTyped b.vocabulary I ss scope
        → AreGroundSummands b (operands_without ss)
    ground-operands no_summands scope typed = tt
    ground-operands (more_summands minus t ss) scope typed =
        (ground-without t scope typed.0, ground-operands ss scope typed.2)

  pub ground-places-without : (ts : TermTrees) (types scope : List ℕ) → PlacesAreTyped b.vocabulary I ts types scope
      → AreGroundTerms b (all_without ts)
  ground-places-without no_terms types scope typed = tt
  ground-places-without (more_terms t ts) [] scope typed = absurd typed
  ground-places-without (more_terms t ts) (ty ∷ types) scope typed =
      (ground-without t scope typed.0, ground-places-without ts types scope typed.2)

  -- and so is one in which there are none
  pub ground-term : (t : TermTree) (scope : List ℕ) → TermIsTyped b.vocabulary I t scope → TermHasNoCounting t
      → IsGroundTerm b t
  ground-term t scope typed none = subst (IsGroundTerm b) (without-same t none) (ground-without t scope typed)

  pub ground-places : (ts : TermTrees) (types scope : List ℕ) → PlacesAreTyped b.vocabulary I ts types scope
      → TermsHaveNoCounting ts → AreGroundTerms b ts
  ground-places ts types scope typed none =
      subst (AreGroundTerms b) (all-same ts none) (ground-places-without ts types scope typed)
