-- Well typed formulas whose aggregates stand where they may are such as the laws speak of.
use Rattle.std.proofs.Common.{◌≡◌, ℕ, ℤ, List, [], ◌∷◌, ◌++◌, Bool, true, false, ◌||◌, ◌⊎◌, Option, Some, None, IsSome}
use Rattle.std.proofs.Common.{IsNone, slice_get, refl, sym, subst, inl, inr}
use Rattle.std.specs.Option.{option_and_then}
use Rattle.kb_logic.specs.declared.elements.Elem.{Elem}
use Rattle.kb_logic.specs.declared.syntax.Cmp.{Cmp}
use Rattle.kb_logic.specs.declared.syntax.Cmp.TheVariants as cmp
use Rattle.kb_logic.specs.declared.vocabularies.Bound.{Bound}
use Rattle.kb_logic.specs.declared.vocabularies.Symbol.{Symbol}
use Rattle.kb_logic.specs.declared.vocabularies.Vocabulary.{Vocabulary}
use Rattle.kb_logic.specs.Trees.{TermTree, variable, integer, constructed, application, summation, product, aggregate}
use Rattle.kb_logic.specs.Trees.{TermTrees, no_terms, more_terms, SummandTrees, no_summands, more_summands}
use Rattle.kb_logic.specs.Trees.{FormulaTree, verum, falsum, atom, comparison, negation, conjunction, disjunction}
use Rattle.kb_logic.specs.Trees.{implication, equivalence, universal, existential, numbered}
use Rattle.kb_logic.specs.Trees.{FormulaTrees, no_formulas, more_formulas}
use Rattle.kb_logic.specs.Bounds.{HasTypes, types_of}
use Rattle.kb_logic.specs.Domains.{AreDomainsOf}
use Rattle.kb_logic.specs.Structures.{choices}
use Rattle.kb_logic.specs.Typing.{IsIntegerIn, TermIsTyped, FactorsAreTyped, OperandsAreTyped, FormulaIsTyped}
use Rattle.kb_logic.specs.Typing.{AllAreTyped, Sort, element_of, arithmetic, sort_of, IsNumeric, SortsAreAkin, SidesFit}
use Rattle.kb_logic.proofs.Atoms.{tuple_elements}
use Rattle.kb_logic.proofs.Has.{Has, contains_from}
use Rattle.term_values.specs.GroundBases.{GroundBase}
use Rattle.term_values.specs.GroundTerms.{TermHasNoCounting, TermsHaveNoCounting, SummandsHaveNoCounting}
use Rattle.term_values.proofs.TypedLaws.{ground-term, ground-places}
use Rattle.def_ground.specs.Counting.{has_aggregate, have_aggregates, sum_has_aggregate}
use Rattle.def_ground.specs.GroundForms.{IsPredicateOf, IsPlaced, ArePlaced, IsSide, IsSummand, AreSummands}
use Rattle.def_ground.specs.GroundForms.{IsOneSummand, IsNumberTerm, IsGroundForm, AreGroundForms, IsGroundSide}
use Rattle.def_ground.specs.GroundForms.{IsAddend}
use Rattle.def_ground.specs.GroundForms.{AreGroundAddends, IsOneAddend}
use Rattle.def_ground.proofs.NumberTerms.{number-term-is}
use Rattle.def_ground.proofs.SideValues.{has-all}
use Rattle.def_ground.proofs.SplitTerms.{neither, both-false}

each-both : (domains : List (List Elem)) (tys us : List ℕ) (e a : List Elem) → HasTypes domains tys e
    → HasTypes domains us a → HasTypes domains (tys ++ us) (e ++ a)
each-both domains [] us [] a h k = k
each-both domains [] us (x ∷ e) a h k = absurd h
each-both domains (ty ∷ tys) us [] a h k = absurd h
each-both domains (ty ∷ tys) us (x ∷ e) a h k = (h.0, each-both domains tys us e a h.1 k)

-- an assignment has the types of its variables
pub choice-types : (domains : List (List Elem)) (scope : List ℕ) (bs : List Bound) (e a : List Elem)
    → HasTypes domains scope e → Has (choices domains bs) a → HasTypes domains (scope ++ types_of bs) (e ++ a)
choice-types domains scope bs e a h m =
    each-both domains scope (types_of bs) e a h
    (tuple_elements domains (types_of bs) a (contains_from (choices domains bs) a m))

-- ---- where there are no aggregates

mutual
  pub no-counting : (t : TermTree) → has_aggregate t ≡ false → TermHasNoCounting t
  no-counting (variable n) h = tt
  no-counting (integer z) h = tt
  no-counting (constructed ty n) h = tt
  no-counting (application s ts) h = no-countings ts h
  no-counting (summation ss) h = no-operand-countings ss h
  no-counting (product ts) h = no-countings ts h
  no-counting (aggregate k bs f t) h = absurd cc

  no-countings : (ts : TermTrees) → have_aggregates ts ≡ false → TermsHaveNoCounting ts
  no-countings no_terms h = tt
  no-countings (more_terms t ts) h =
      let both = neither (has_aggregate t) (have_aggregates ts) h in (no-counting t both.0, no-countings ts both.1)

  no-operand-countings : (ss : SummandTrees) → sum_has_aggregate ss ≡ false → SummandsHaveNoCounting ss
  no-operand-countings no_summands h = tt
  no-operand-countings (more_summands minus t ss) h =
      let both = neither (has_aggregate t) (sum_has_aggregate ss) h in
      (no-counting t both.0, no-operand-countings ss both.1)

mutual
  pub counting-free : (t : TermTree) → TermHasNoCounting t → has_aggregate t ≡ false
  counting-free (variable n) h = refl
  counting-free (integer z) h = refl
  counting-free (constructed ty n) h = refl
  counting-free (application s ts) h = countings-free ts h
  counting-free (summation ss) h = operands-free ss h
  counting-free (product ts) h = countings-free ts h
  counting-free (aggregate k bs f t) h = absurd h

  countings-free : (ts : TermTrees) → TermsHaveNoCounting ts → have_aggregates ts ≡ false
  countings-free no_terms h = refl
  countings-free (more_terms t ts) h =
      both-false (has_aggregate t) (have_aggregates ts) (counting-free t h.0) (countings-free ts h.1)

  operands-free : (ss : SummandTrees) → SummandsHaveNoCounting ss → sum_has_aggregate ss ≡ false
  operands-free no_summands h = refl
  operands-free (more_summands minus t ss) h =
      both-false (has_aggregate t) (sum_has_aggregate ss) (counting-free t h.0) (operands-free ss h.1)

-- ---- sorts of sides

no-difference : (c : Bool) → c ≡ true → c ≡ false → ⊥
no-difference true h k = absurd cc
no-difference false h k = absurd cc

either-true : (c d : Bool) → (c || d) ≡ true → (c ≡ true) ⊎ (d ≡ true)
either-true true d h = inl refl
either-true false d h = inr h

-- a side with aggregates is arithmetic
counts-arithmetic : (v : Vocabulary) (scope : List ℕ) (other : Bool) (x : TermTree) → has_aggregate x ≡ true
    → IsSide other x → sort_of v x scope ≡ Some arithmetic
counts-arithmetic v scope other (variable n) h k = absurd cc
counts-arithmetic v scope other (integer z) h k = absurd cc
counts-arithmetic v scope other (constructed ty n) h k = absurd cc
counts-arithmetic v scope other (application s ts) h k =
    absurd (no-difference (have_aggregates ts) h (countings-free ts k))
counts-arithmetic v scope other (summation ss) h k = refl
counts-arithmetic v scope other (product ts) h k = refl
counts-arithmetic v scope other (aggregate kind bs f t) h k = refl

akin-left : (v : Vocabulary) (o : Option Sort) → SortsAreAkin v (Some arithmetic) o → IsNumeric v o
akin-left v None h = absurd h
akin-left v (Some s) h = h

akin-right : (v : Vocabulary) (o : Option Sort) → SortsAreAkin v o (Some arithmetic) → IsNumeric v o
akin-right v None h = absurd h
akin-right v (Some (element_of t)) h = h
akin-right v (Some arithmetic) h = tt

fit-left : (v : Vocabulary) (c : Cmp) (o : Option Sort) → SidesFit v c (Some arithmetic) o → IsNumeric v o
fit-left v cmp.Eq o h = akin-left v o h
fit-left v cmp.Ne o h = akin-left v o h
fit-left v cmp.Lt o h = h.1
fit-left v cmp.Gt o h = h.1
fit-left v cmp.Le o h = h.1
fit-left v cmp.Ge o h = h.1

fit-right : (v : Vocabulary) (c : Cmp) (o : Option Sort) → SidesFit v c o (Some arithmetic) → IsNumeric v o
fit-right v cmp.Eq o h = akin-right v o h
fit-right v cmp.Ne o h = akin-right v o h
fit-right v cmp.Lt o h = h.0
fit-right v cmp.Gt o h = h.0
fit-right v cmp.Le o h = h.0
fit-right v cmp.Ge o h = h.0

-- both sides are numbers where one has aggregates
numeric-sides : (v : Vocabulary) (scope : List ℕ) (c : Cmp) (x y : TermTree)
    → SidesFit v c (sort_of v x scope) (sort_of v y scope) → (has_aggregate x || has_aggregate y) ≡ true
    → IsSide (has_aggregate y) x → IsSide (has_aggregate x) y
    → IsNumeric v (sort_of v x scope) × IsNumeric v (sort_of v y scope)
numeric-sides v scope c x y fit either hx hy = elim (either-true (has_aggregate x) (has_aggregate y) either) [
  | inl h ↦ let is = counts-arithmetic v scope (has_aggregate y) x h hx in (
    subst (IsNumeric v) (sym is) tt,
    fit-left v c (sort_of v y scope) (subst (λ o. SidesFit v c o (sort_of v y scope)) is fit),
  )
  | inr h ↦ let is = counts-arithmetic v scope (has_aggregate x) y h hy in (
    fit-right v c (sort_of v x scope) (subst (SidesFit v c (sort_of v x scope)) is fit),
    subst (IsNumeric v) (sym is) tt,
  )
]

none-value : (o : Option ℕ) → o ≡ None → IsNone o
none-value None e = refl
none-value (Some ty) e = cc

-- ---- formulas

module _ (b : GroundBase) (given : AreDomainsOf b.vocabulary b.domains) where
  predicate-is : (s : ℕ) (d : Symbol) → slice_get b.vocabulary.symbols s ≡ Some d → d.value ≡ None → IsPredicateOf b s
  predicate-is s d at plain = record {
    declared = subst (λ (o : Option Symbol). IsSome o) (sym at) refl;
    value =
        subst (λ (o : Option Symbol). IsNone (option_and_then (λ (t : Symbol). t.value) o)) (sym at)
        (none-value d.value plain);
  }

  abbrev I : ℕ → ℤ → Type 0
  I = IsIntegerIn b.domains

  -- a comparison, by whether there are aggregates in it
  compared-form : (c : Cmp) (x y : TermTree) (scope : List ℕ) (e : List Elem)
      → FormulaIsTyped b.vocabulary I (comparison c x y) scope → IsPlaced (comparison c x y)
      → (IsNumeric b.vocabulary (sort_of b.vocabulary x scope) → IsGroundSide b (has_aggregate y) x e)
      → (IsNumeric b.vocabulary (sort_of b.vocabulary y scope) → IsGroundSide b (has_aggregate x) y e)
      → IsGroundForm b (comparison c x y) e
  compared-form c x y scope e typed placed left right = by (has_aggregate x || has_aggregate y) refl
    where
      by : (k : Bool) → (has_aggregate x || has_aggregate y) ≡ k → IsGroundForm b (comparison c x y) e
      by true is =
          let both = numeric-sides b.vocabulary scope c x y typed.2 is placed.0 placed.1 in
          inr (is, left both.0, right both.1)
      by false is =
          let none = neither (has_aggregate x) (has_aggregate y) is in
          inl (
            ground-term b I x scope typed.0 (no-counting x none.0),
            ground-term b I y scope typed.1 (no-counting y none.1),
          )

  weights-are : (bs : List Bound) (t : TermTree) (scope : List ℕ) (e : List Elem) → HasTypes b.domains scope e
      → TermIsTyped b.vocabulary I t (scope ++ types_of bs)
      → IsNumeric b.vocabulary (sort_of b.vocabulary t (scope ++ types_of bs)) → TermHasNoCounting t
      → (a : List Elem) → Has (choices b.domains bs) a → IsNumberTerm b t (e ++ a)
  weights-are bs t scope e types typed numeric none a m =
      number-term-is b given (scope ++ types_of bs) (e ++ a) (choice-types b.domains scope bs e a types m) t typed
      numeric none

  mutual
    pub ground-form : (f : FormulaTree) (scope : List ℕ) (e : List Elem) → HasTypes b.domains scope e
        → FormulaIsTyped b.vocabulary I f scope → IsPlaced f → IsGroundForm b f e
    ground-form verum scope e types typed placed = tt
    ground-form falsum scope e types typed placed = tt
    ground-form (atom s ts) scope e types typed placed =
        (predicate-is s typed.0 typed.1 typed.2, ground-places b I ts typed.0.args scope typed.3 placed)
    ground-form (comparison c x y) scope e types typed placed =
        compared-form c x y scope e typed placed
        (λ numeric. ground-side x (has_aggregate y) scope e types typed.0 numeric placed.0)
        (λ numeric. ground-side y (has_aggregate x) scope e types typed.1 numeric placed.1)
    ground-form (negation f) scope e types typed placed = ground-form f scope e types typed placed
    ground-form (conjunction fs) scope e types typed placed = ground-forms fs scope e types typed placed
    ground-form (disjunction fs) scope e types typed placed = ground-forms fs scope e types typed placed
    ground-form (implication f g) scope e types typed placed =
        (ground-form f scope e types typed.0 placed.0, ground-form g scope e types typed.1 placed.1)
    ground-form (equivalence f g) scope e types typed placed =
        (ground-form f scope e types typed.0 placed.0, ground-form g scope e types typed.1 placed.1)
    ground-form (universal bs f) scope e types typed placed =
        has-all (λ a. IsGroundForm b f (e ++ a)) (choices b.domains bs)
        (λ a m. ground-form f (scope ++ types_of bs) (e ++ a) (choice-types b.domains scope bs e a types m) typed.1
        placed)
    ground-form (existential bs f) scope e types typed placed =
        has-all (λ a. IsGroundForm b f (e ++ a)) (choices b.domains bs)
        (λ a m. ground-form f (scope ++ types_of bs) (e ++ a) (choice-types b.domains scope bs e a types m) typed.1
        placed)
    ground-form (numbered c n bs f) scope e types typed placed =
        has-all (λ a. IsGroundForm b f (e ++ a)) (choices b.domains bs)
        (λ a m. ground-form f (scope ++ types_of bs) (e ++ a) (choice-types b.domains scope bs e a types m) typed.1
        placed)

    ground-forms : (fs : FormulaTrees) (scope : List ℕ) (e : List Elem) → HasTypes b.domains scope e
        → AllAreTyped b.vocabulary I fs scope → ArePlaced fs → AreGroundForms b fs e
    ground-forms no_formulas scope e types typed placed = tt
    ground-forms (more_formulas f fs) scope e types typed placed =
        (ground-form f scope e types typed.0 placed.0, ground-forms fs scope e types typed.1 placed.1)

    -- a number as a side of a comparison
    pub ground-side : (x : TermTree) (other : Bool) (scope : List ℕ) (e : List Elem) → HasTypes b.domains scope e
        → TermIsTyped b.vocabulary I x scope → IsNumeric b.vocabulary (sort_of b.vocabulary x scope) → IsSide other x
        → IsGroundSide b other x e
    ground-side (variable n) other scope e types typed numeric placed =
        number-term-is b given scope e types (variable n) typed numeric tt
    ground-side (integer z) other scope e types typed numeric placed = tt
    ground-side (constructed ty n) other scope e types typed numeric placed =
        number-term-is b given scope e types (constructed ty n) typed numeric tt
    ground-side (application s ts) other scope e types typed numeric placed =
        number-term-is b given scope e types (application s ts) typed numeric placed
    ground-side (summation ss) other scope e types typed numeric placed = ground-addends ss scope e types typed placed
    ground-side (product ts) other scope e types typed numeric (inl none) =
        inl (number-term-is b given scope e types (product ts) typed numeric none)
    ground-side (product ts) other scope e types typed numeric (inr one) =
        inr (ground-one ts scope e types typed one)
    ground-side (aggregate k bs f t) other scope e types typed numeric placed = (
      placed.0,
      has-all (λ a. IsGroundForm b f (e ++ a)) (choices b.domains bs)
          (λ a m. ground-form f (scope ++ types_of bs) (e ++ a) (choice-types b.domains scope bs e a types m) typed.1
          placed.1),
      has-all (λ a. IsNumberTerm b t (e ++ a)) (choices b.domains bs)
          (weights-are bs t scope e types typed.2 typed.3 placed.2),
    )

    -- a number as an operand of a sum
    ground-addend : (x : TermTree) (scope : List ℕ) (e : List Elem) → HasTypes b.domains scope e
        → TermIsTyped b.vocabulary I x scope → IsNumeric b.vocabulary (sort_of b.vocabulary x scope) → IsSummand x
        → IsAddend b x e
    ground-addend (variable n) scope e types typed numeric placed =
        number-term-is b given scope e types (variable n) typed numeric tt
    ground-addend (integer z) scope e types typed numeric placed = tt
    ground-addend (constructed ty n) scope e types typed numeric placed =
        number-term-is b given scope e types (constructed ty n) typed numeric tt
    ground-addend (application s ts) scope e types typed numeric placed =
        number-term-is b given scope e types (application s ts) typed numeric placed
    ground-addend (summation ss) scope e types typed numeric placed = ground-addends ss scope e types typed placed
    ground-addend (product ts) scope e types typed numeric (inl none) =
        inl (number-term-is b given scope e types (product ts) typed numeric none)
    ground-addend (product ts) scope e types typed numeric (inr one) = inr (ground-one ts scope e types typed one)
    ground-addend (aggregate k bs f t) scope e types typed numeric placed = (
      placed.0,
      has-all (λ a. IsGroundForm b f (e ++ a)) (choices b.domains bs)
          (λ a m. ground-form f (scope ++ types_of bs) (e ++ a) (choice-types b.domains scope bs e a types m) typed.1
          placed.1),
      has-all (λ a. IsNumberTerm b t (e ++ a)) (choices b.domains bs)
          (weights-are bs t scope e types typed.2 typed.3 placed.2),
    )

    ground-addends : (ss : SummandTrees) (scope : List ℕ) (e : List Elem) → HasTypes b.domains scope e
        → OperandsAreTyped b.vocabulary I ss scope → AreSummands ss → AreGroundAddends b ss e
    ground-addends no_summands scope e types typed placed = tt
    ground-addends (more_summands minus t ss) scope e types typed placed = (
      ground-addend t scope e types typed.0 typed.1 placed.0,
      ground-addends ss scope e types typed.2 placed.1,
    )

    ground-one : (ts : TermTrees) (scope : List ℕ) (e : List Elem) → HasTypes b.domains scope e
        → FactorsAreTyped b.vocabulary I ts scope → IsOneSummand ts → IsOneAddend b ts e
    ground-one no_terms scope e types typed placed = absurd placed
    ground-one (more_terms t ts) scope e types typed (inl placed) =
        inl (ground-addend t scope e types typed.0 typed.1 placed.0, placed.1)
    ground-one (more_terms t ts) scope e types typed (inr placed) =
        inr (placed.0, ground-one ts scope e types typed.2 placed.1)
