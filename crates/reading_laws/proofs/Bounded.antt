-- Where all bounds are small, terms are bounded, and none of their bounds is clamped.
use Rattle.std.proofs.Common.{◌≡◌, ◌≤◌, ℕ, ◌*◌, ℤ, pos, neg_ℤ, ◌*ℤ◌, Bool, true, false, not, ◌&&◌, List, [], ◌∷◌, ◌++◌}
use Rattle.std.proofs.Common.{length, fold, Option, None, Some, unwrap_or, slice_get, IfSome, refl, sym, ap, subst, ◌∙◌}
use Rattle.std.proofs.Common.{arith, int_lt, ◌≤ℤ◌}
use Rattle.std.specs.Int.{int_min, int_max}
use Rattle.std.specs.List.{list_all, AllByRecursion}
use Rattle.std.proofs.lemmas.Int.{ints, clamps}
use Rattle.std.proofs.lemmas.List.Folds.{list_all-append}
use Rattle.kb_logic.specs.declared.elements.Elem.{Elem}
use Rattle.kb_logic.specs.declared.elements.Elem.TheVariants.{Named, Num}
use Rattle.kb_logic.specs.declared.syntax.AggKind.{AggKind}
use Rattle.kb_logic.specs.declared.syntax.AggKind.TheVariants as kind
use Rattle.kb_logic.specs.declared.vocabularies.Vocabulary.{Vocabulary}
use Rattle.kb_logic.specs.Trees.{TermTree, variable, integer, constructed, application, summation, product, aggregate}
use Rattle.kb_logic.specs.Trees.{TermTrees, no_terms, more_terms, SummandTrees, no_summands, more_summands, FormulaTree}
use Rattle.kb_logic.specs.Trees.{verum, falsum, atom, comparison, negation, conjunction, disjunction, implication}
use Rattle.kb_logic.specs.Trees.{equivalence, universal, existential, numbered, FormulaTrees, no_formulas}
use Rattle.kb_logic.specs.Trees.{more_formulas}
use Rattle.kb_logic.specs.Structures.{domain_at, choices}
use Rattle.kb_logic.specs.Bounds.{Interval, exactly, hull, integers, range_of, domain_if, value_type_of}
use Rattle.kb_logic.specs.Bounds.{signed_interval, interval_sum, interval_product, below_zero, above_zero}
use Rattle.kb_logic.specs.Bounds.{aggregate_bounds, types_of, bounds_of, factor_bounds, summand_bounds, IsSmall}
use Rattle.kb_logic.specs.Bounds.{bound_limit, front_bounds, IsBounded, AreBounded, TermIsBounded, TermsAreBounded}
use Rattle.kb_logic.specs.Bounds.{SummandsAreBounded}
use Rattle.stage_definitions.specs.ClampedBounds.{clamp, clamp_interval, clamping_sum, clamping_product, clamped_bounds}
use Rattle.stage_definitions.specs.ClampedBounds.{clamped_factors, clamped_summands}
use Rattle.stage_definitions.specs.Sizes.{is_small, bounds_at, formula_bounds, formulas_bounds, term_bounds}
use Rattle.stage_definitions.specs.Sizes.{terms_bounds}
use Rattle.stage_definitions.specs.Sizes.{summands_bounds}
use Rattle.reading_laws.specs.SizeLaws.{SmallIsBounded, SmallTermIsBounded}

both : (a b : Bool) → (a && b) ≡ true → (a ≡ true) × (b ≡ true)
both true b h = (refl, h)
both false b h = absurd (cc)

not_lower_by : (a b : ℤ) (t : Bool) → int_lt a b ≡ t → not t ≡ true → b ≤ℤ a
not_lower_by a b true e h = absurd (cc)
not_lower_by a b false e h = omega (arith, ints)

pub not_lower : (a b : ℤ) → not (int_lt a b) ≡ true → b ≤ℤ a
not_lower a b h = not_lower_by a b (int_lt a b) refl h

small : (i : Interval) → is_small i ≡ true → IsSmall i
small i h =
    let parts = both (not (int_lt i.low (neg_ℤ (pos bound_limit)))) (not (int_lt (pos bound_limit) i.high)) h in
    (not_lower i.low (neg_ℤ (pos bound_limit)) parts.0, not_lower (pos bound_limit) i.high parts.1)

all_small : (is : List Interval) → list_all is_small is ≡ true → AllByRecursion IsSmall is
all_small [] h = tt
all_small (i ∷ is) h = let parts = both (is_small i) (list_all is_small is) h in (small i parts.0, all_small is parts.1)

-- of two lists of bounds, each is small
parted : (xs ys : List (List Interval)) → list_all (list_all is_small) (xs ++ ys) ≡ true
    → (list_all (list_all is_small) xs ≡ true) × (list_all (list_all is_small) ys ≡ true)
parted xs ys h = both (list_all (list_all is_small) xs) (list_all (list_all is_small) ys)
    (sym (list_all-append (list_all is_small) xs ys) ∙ h)

-- the bounds of one term, and those of the rest
first_of_all : (is : List Interval) (rest : List (List Interval)) → list_all (list_all is_small) (is ∷ rest) ≡ true
    → AllByRecursion IsSmall is × (list_all (list_all is_small) rest ≡ true)
first_of_all is rest h = let parts = both (list_all is_small is) (list_all (list_all is_small) rest) h in
    (all_small is parts.0, parts.1)

-- ---- the lower bound is not above the upper one

abbrev IsProper : Interval → Type 0
IsProper i = i.low ≤ℤ i.high

hull_proper : (z : ℤ) (o : Option Interval) → IfSome o IsProper → IsProper (hull z o)
hull_proper z None h = omega (arith, ints)
hull_proper z (Some i) h = omega (arith, ints, clamps)

integers_proper : (xs : List Elem) → IfSome (integers xs) IsProper
integers_proper [] = tt
integers_proper (Named n ∷ xs) = integers_proper xs
integers_proper (Num z ∷ xs) = hull_proper z (integers xs) (integers_proper xs)

range_by : (o : Option Interval) → IfSome o IsProper → IsProper (unwrap_or o (exactly (pos 0)))
range_by None h = omega (arith, ints)
range_by (Some i) h = h

range_proper : (xs : List Elem) → IsProper (range_of xs)
range_proper xs = range_by (integers xs) (integers_proper xs)

exactly_proper : (z : ℤ) → IsProper (exactly z)
exactly_proper z = omega (arith, ints)

sum_proper : (i j : Interval) → IsProper i → IsProper j → IsProper (interval_sum i j)
sum_proper i j h k = omega (arith, ints, h, k)

product_proper : (i j : Interval) → IsProper i → IsProper j → IsProper (interval_product i j)
product_proper i j h k = ends (i.low *ℤ j.low) (i.low *ℤ j.high) (i.high *ℤ j.low) (i.high *ℤ j.high)
  where
    ends : (a b c d : ℤ) → int_min (int_min a b) (int_min c d) ≤ℤ int_max (int_max a b) (int_max c d)
    ends a b c d = omega (arith, ints, clamps)

signed_proper : (minus : Bool) (i : Interval) → IsProper i → IsProper (signed_interval minus i)
signed_proper true i h = omega (arith, ints, h)
signed_proper false i h = h

aggregate_proper : (kind : AggKind) (n : ℕ) (i : Interval) → IsProper i → IsProper (aggregate_bounds kind n i)
aggregate_proper kind.Count n i h = omega (arith, ints)
aggregate_proper kind.Sum n i h = ends (n * below_zero i.low) (n * above_zero i.high)
  where
    ends : (a b : ℕ) → neg_ℤ (pos a) ≤ℤ pos b
    ends a b = omega (arith, ints)
aggregate_proper kind.Min n i h = h
aggregate_proper kind.Max n i h = h

abbrev KeepsProper : (Interval → Interval → Interval) → Type 0
KeepsProper step = (i j : Interval) → IsProper i → IsProper j → IsProper (step i j)

fold_proper : (step : Interval → Interval → Interval) → KeepsProper step → (i : Interval) (js : List Interval)
    → IsProper i → AllByRecursion IsProper js → IsProper (fold step i js)
fold_proper step keeps i [] h hs = h
fold_proper step keeps i (j ∷ js) h hs = fold_proper step keeps (step i j) js (keeps i j h hs.0) hs.1

mutual
  bounds_proper : (v : Vocabulary) (domains : List (List Elem)) (t : TermTree) (scope : List ℕ)
      → IsProper (bounds_of v domains t scope)
  bounds_proper v domains (variable n) scope = range_proper (domain_if domains (slice_get scope n))
  bounds_proper v domains (integer z) scope = exactly_proper z
  bounds_proper v domains (constructed ty n) scope = range_proper (domain_at domains ty)
  bounds_proper v domains (application s ts) scope = range_proper (domain_if domains (value_type_of v s))
  bounds_proper v domains (summation ss) scope = fold_proper interval_sum sum_proper (exactly (pos 0))
      (summand_bounds v domains ss scope) (exactly_proper (pos 0)) (summands_proper v domains ss scope)
  bounds_proper v domains (product ts) scope = fold_proper interval_product product_proper (exactly (pos 1))
      (factor_bounds v domains ts scope) (exactly_proper (pos 1)) (factors_proper v domains ts scope)
  bounds_proper v domains (aggregate k bs f t) scope = aggregate_proper k (length (choices domains bs))
      (bounds_of v domains t (scope ++ types_of bs)) (bounds_proper v domains t (scope ++ types_of bs))

  factors_proper : (v : Vocabulary) (domains : List (List Elem)) (ts : TermTrees) (scope : List ℕ)
      → AllByRecursion IsProper (factor_bounds v domains ts scope)
  factors_proper v domains no_terms scope = tt
  factors_proper v domains (more_terms t ts) scope = (
    bounds_proper v domains t scope,
    factors_proper v domains ts scope,
  )

  summands_proper : (v : Vocabulary) (domains : List (List Elem)) (ss : SummandTrees) (scope : List ℕ)
      → AllByRecursion IsProper (summand_bounds v domains ss scope)
  summands_proper v domains no_summands scope = tt
  summands_proper v domains (more_summands minus t ss) scope = (
    signed_proper minus (bounds_of v domains t scope) (bounds_proper v domains t scope),
    summands_proper v domains ss scope,
  )

-- ---- what is small is not clamped

low_end : (a b : ℤ) → a ≤ℤ b → neg_ℤ (pos 1000000000000000) ≤ℤ clamp a → clamp b ≤ℤ pos 1000000000000000 → clamp a ≡ a
low_end a b order low high = omega (arith, ints, clamps, order, low, high)

high_end : (a b : ℤ) → a ≤ℤ b → neg_ℤ (pos 1000000000000000) ≤ℤ clamp a → clamp b ≤ℤ pos 1000000000000000 → clamp b ≡ b
high_end a b order low high = omega (arith, ints, clamps, order, low, high)

abbrev between_ends : ℤ → ℤ → Interval
between_ends low high = record { low = low; high = high }

same_interval : (i : Interval) → clamp i.low ≡ i.low → clamp i.high ≡ i.high → clamp_interval i ≡ i
same_interval i l h = ap (λ z. between_ends z (clamp i.high)) l ∙ ap (λ z. between_ends i.low z) h

-- an interval that is small where it is clamped is not changed
unclamped : (i : Interval) → IsProper i → IsSmall (clamp_interval i) → clamp_interval i ≡ i
unclamped i order h = same_interval i (low_end i.low i.high order h.0 h.1) (high_end i.low i.high order h.0 h.1)

own_end : (a b z : ℤ) → a ≤ℤ b → neg_ℤ (pos 1000000000000000) ≤ℤ a → b ≤ℤ pos 1000000000000000 → a ≤ℤ z → z ≤ℤ b
    → clamp z ≡ z
own_end a b z order low high first last = omega (arith, ints, clamps, order, low, high, first, last)

-- nor is one that is small
small_kept : (i : Interval) → IsProper i → IsSmall i → clamp_interval i ≡ i
small_kept i order h = same_interval i (own_end i.low i.high i.low order h.0 h.1 (itself i.low) order)
    (own_end i.low i.high i.high order h.0 h.1 order (itself i.high))
  where
    itself : (z : ℤ) → z ≤ℤ z
    itself z = omega (arith, ints)

signed_small : (minus : Bool) (i : Interval) → IsSmall i → IsSmall (signed_interval minus i)
signed_small true i h = let low = h.0 in let high = h.1 in (omega (arith, ints, high), omega (arith, ints, low))
signed_small false i h = h

-- the prefixes of a chain, where all are small
prefixes : (step : Interval → Interval → Interval) → KeepsProper step → (i : Interval) (js : List Interval) → IsProper i
    → AllByRecursion IsProper js → IsSmall i
    → AllByRecursion IsSmall (front_bounds (λ a b. clamp_interval (step a b)) i js)
    → AllByRecursion IsSmall (front_bounds step i js) × (fold (λ a b. clamp_interval (step a b)) i js ≡ fold step i js)
    × IsSmall (fold step i js)
prefixes step keeps i [] order orders small h = (tt, refl, small)
prefixes step keeps i (j ∷ js) order orders small h =
    let next = keeps i j order orders.0 in
    let same = unclamped (step i j) next h.0 in
    let here : IsSmall (step i j) = subst IsSmall same h.0 in
    let rest = prefixes step keeps (step i j) js next orders.1 here
    (subst (λ (k : Interval). AllByRecursion IsSmall (front_bounds (λ a b. clamp_interval (step a b)) k js)) same
    h.1) in
    ((here, rest.0), ap (λ (k : Interval). fold (λ a b. clamp_interval (step a b)) k js) same ∙ rest.1, rest.2)

exactly_small : (n : ℕ) → n ≤ 1 → IsSmall (exactly (pos n))
exactly_small n h = (omega (arith, ints, h), omega (arith, ints, h))

-- ---- terms and formulas

-- a term is bounded, and its bounds are small and not clamped
record Keeps (v : Vocabulary) (domains : List (List Elem)) (t : TermTree) (scope : List ℕ) : Type 0 where
  bounded : TermIsBounded v domains t scope
  same : clamped_bounds v domains t scope ≡ bounds_of v domains t scope
  small : IsSmall (bounds_of v domains t scope)

mutual
  pub formula_bounded : (v : Vocabulary) (domains : List (List Elem)) (f : FormulaTree) (scope : List ℕ)
      → list_all (list_all is_small) (formula_bounds v domains f scope) ≡ true → IsBounded v domains f scope
  formula_bounded v domains verum scope h = tt
  formula_bounded v domains falsum scope h = tt
  formula_bounded v domains (atom s ts) scope h = (terms_bounded v domains ts scope h).0
  formula_bounded v domains (comparison c a b) scope h =
      let parts = parted (term_bounds v domains a scope) (term_bounds v domains b scope) h in
      ((term_bounded v domains a scope parts.0).bounded, (term_bounded v domains b scope parts.1).bounded)
  formula_bounded v domains (negation f) scope h = formula_bounded v domains f scope h
  formula_bounded v domains (conjunction fs) scope h = formulas_bounded v domains fs scope h
  formula_bounded v domains (disjunction fs) scope h = formulas_bounded v domains fs scope h
  formula_bounded v domains (implication f g) scope h =
      let parts = parted (formula_bounds v domains f scope) (formula_bounds v domains g scope) h in
      (formula_bounded v domains f scope parts.0, formula_bounded v domains g scope parts.1)
  formula_bounded v domains (equivalence f g) scope h =
      let parts = parted (formula_bounds v domains f scope) (formula_bounds v domains g scope) h in
      (formula_bounded v domains f scope parts.0, formula_bounded v domains g scope parts.1)
  formula_bounded v domains (universal bs f) scope h = formula_bounded v domains f (scope ++ types_of bs) h
  formula_bounded v domains (existential bs f) scope h = formula_bounded v domains f (scope ++ types_of bs) h
  formula_bounded v domains (numbered c k bs f) scope h = formula_bounded v domains f (scope ++ types_of bs) h

  formulas_bounded : (v : Vocabulary) (domains : List (List Elem)) (fs : FormulaTrees) (scope : List ℕ)
      → list_all (list_all is_small) (formulas_bounds v domains fs scope) ≡ true → AreBounded v domains fs scope
  formulas_bounded v domains no_formulas scope h = tt
  formulas_bounded v domains (more_formulas f fs) scope h =
      let parts = parted (formula_bounds v domains f scope) (formulas_bounds v domains fs scope) h in
      (formula_bounded v domains f scope parts.0, formulas_bounded v domains fs scope parts.1)

  term_bounded : (v : Vocabulary) (domains : List (List Elem)) (t : TermTree) (scope : List ℕ)
      → list_all (list_all is_small) (term_bounds v domains t scope) ≡ true → Keeps v domains t scope
  term_bounded v domains (variable n) scope h =
      let own = (first_of_all (bounds_at v domains (variable n) scope) [] h).0.0 in
      record { bounded = own; same = refl; small = own }
  term_bounded v domains (integer z) scope h =
      let own = (first_of_all (bounds_at v domains (integer z) scope) [] h).0.0 in
      record { bounded = own; same = refl; small = own }
  term_bounded v domains (constructed ty n) scope h =
      let own = (first_of_all (bounds_at v domains (constructed ty n) scope) [] h).0.0 in
      record { bounded = own; same = refl; small = own }
  term_bounded v domains (application s ts) scope h =
      let parts = first_of_all (bounds_at v domains (application s ts) scope) (terms_bounds v domains ts scope) h in
      record { bounded = (parts.0.0, (terms_bounded v domains ts scope parts.1).0); same = refl; small = parts.0.0 }
  term_bounded v domains (summation ss) scope h =
      let parts = first_of_all (bounds_at v domains (summation ss) scope) (summands_bounds v domains ss scope) h in
      let inner = summands_bounded v domains ss scope parts.1 in
      let chain =
      prefixes interval_sum sum_proper (exactly (pos 0)) (summand_bounds v domains ss scope) (exactly_proper (pos 0))
      (summands_proper v domains ss scope) (exactly_small 0 (omega arith))
      (subst (λ js. AllByRecursion IsSmall (front_bounds clamping_sum (exactly (pos 0)) js)) inner.1 parts.0) in
      record {
        bounded = (chain.0, inner.0);
        same = ap (fold clamping_sum (exactly (pos 0))) inner.1 ∙ chain.1;
        small = chain.2;
      }
  term_bounded v domains (product ts) scope h =
      let parts = first_of_all (bounds_at v domains (product ts) scope) (terms_bounds v domains ts scope) h in
      let inner = terms_bounded v domains ts scope parts.1 in
      let chain =
      prefixes interval_product product_proper (exactly (pos 1)) (factor_bounds v domains ts scope)
      (exactly_proper (pos 1)) (factors_proper v domains ts scope) (exactly_small 1 (omega arith))
      (subst (λ js. AllByRecursion IsSmall (front_bounds clamping_product (exactly (pos 1)) js)) inner.1 parts.0) in
      record {
        bounded = (chain.0, inner.0);
        same = ap (fold clamping_product (exactly (pos 1))) inner.1 ∙ chain.1;
        small = chain.2;
      }
  term_bounded v domains (aggregate k bs f t) scope h =
      let inner = scope ++ types_of bs in
      let n = length (choices domains bs) in
      let parts = first_of_all (bounds_at v domains (aggregate k bs f t) scope)
      (formula_bounds v domains f inner ++ term_bounds v domains t inner) h in
      let inside = parted (formula_bounds v domains f inner) (term_bounds v domains t inner) parts.1 in
      let weight = term_bounded v domains t inner inside.1 in
      let exact = aggregate_bounds k n (bounds_of v domains t inner) in
      let here : IsSmall (clamp_interval exact) = subst (λ (i : Interval).
      IsSmall (clamp_interval (aggregate_bounds k n i))) weight.same parts.0.0 in
      let kept = unclamped exact (aggregate_proper k n (bounds_of v domains t inner) (bounds_proper v domains t inner))
      here in
      let small : IsSmall exact = subst IsSmall kept here in
      record {
        bounded = (small, formula_bounded v domains f inner inside.0, weight.bounded);
        same = ap (λ (i : Interval). clamp_interval (aggregate_bounds k n i)) weight.same ∙ kept;
        small = small;
      }

  terms_bounded : (v : Vocabulary) (domains : List (List Elem)) (ts : TermTrees) (scope : List ℕ)
      → list_all (list_all is_small) (terms_bounds v domains ts scope) ≡ true
      → TermsAreBounded v domains ts scope × (clamped_factors v domains ts scope ≡ factor_bounds v domains ts scope)
  terms_bounded v domains no_terms scope h = (tt, refl)
  terms_bounded v domains (more_terms t ts) scope h =
      let parts = parted (term_bounds v domains t scope) (terms_bounds v domains ts scope) h in
      let first = term_bounded v domains t scope parts.0 in
      let rest = terms_bounded v domains ts scope parts.1 in (
        (first.bounded, rest.0),
        ap (λ (i : Interval). i ∷ clamped_factors v domains ts scope) first.same
            ∙ ap (λ is. bounds_of v domains t scope ∷ is) rest.1,
      )

  summands_bounded : (v : Vocabulary) (domains : List (List Elem)) (ss : SummandTrees) (scope : List ℕ)
      → list_all (list_all is_small) (summands_bounds v domains ss scope) ≡ true
      → SummandsAreBounded v domains ss scope × (clamped_summands v domains ss scope
      ≡ summand_bounds v domains ss scope)
  summands_bounded v domains no_summands scope h = (tt, refl)
  summands_bounded v domains (more_summands minus t ss) scope h =
      let parts = parted (term_bounds v domains t scope) (summands_bounds v domains ss scope) h in
      let first = term_bounded v domains t scope parts.0 in
      let rest = summands_bounded v domains ss scope parts.1 in
      let own = signed_interval minus (bounds_of v domains t scope) in
      let kept = small_kept own (signed_proper minus (bounds_of v domains t scope) (bounds_proper v domains t scope))
      (signed_small minus (bounds_of v domains t scope) first.small) in (
        (first.bounded, rest.0),
        ap (λ (i : Interval). clamp_interval (signed_interval minus i) ∷ clamped_summands v domains ss scope) first.same
            ∙ ap (λ (i : Interval). i ∷ clamped_summands v domains ss scope) kept
            ∙ ap (λ is. own ∷ is) rest.1,
      )

-- ---- the other way: what is bounded is small where it is clamped

not_below : (a b : ℤ) (t : Bool) → int_lt a b ≡ t → b ≤ℤ a → not t ≡ true
not_below a b true e h = absurd (omega (arith, ints, h))
not_below a b false e h = refl

small_test : (i : Interval) → IsSmall i → is_small i ≡ true
small_test i h =
    both_true (not (int_lt i.low (neg_ℤ (pos bound_limit)))) (not (int_lt (pos bound_limit) i.high))
    (not_below i.low (neg_ℤ (pos bound_limit)) (int_lt i.low (neg_ℤ (pos bound_limit))) refl h.0)
    (not_below (pos bound_limit) i.high (int_lt (pos bound_limit) i.high) refl h.1)
  where
    both_true : (a b : Bool) → a ≡ true → b ≡ true → (a && b) ≡ true
    both_true a b h k = ap (λ x. x && b) h ∙ k

abbrev PassAll : List (List Interval) → Type 0
PassAll bs = list_all (list_all is_small) bs ≡ true

all_tests : (is : List Interval) → AllByRecursion IsSmall is → list_all is_small is ≡ true
all_tests [] h = refl
all_tests (i ∷ is) h = ap (λ b. b && list_all is_small is) (small_test i h.0) ∙ all_tests is h.1

passes_first : (is : List Interval) (rest : List (List Interval)) → list_all is_small is ≡ true → PassAll rest
    → PassAll (is ∷ rest)
passes_first is rest h k = ap (λ b. b && list_all (list_all is_small) rest) h ∙ k

passes_one : (i : Interval) (rest : List (List Interval)) → IsSmall i → PassAll rest → PassAll ((i ∷ []) ∷ rest)
passes_one i rest h k = passes_first (i ∷ []) rest (all_tests (i ∷ []) (h, tt)) k

passes_both : (xs ys : List (List Interval)) → PassAll xs → PassAll ys → PassAll (xs ++ ys)
passes_both xs ys h k = list_all-append (list_all is_small) xs ys ∙ ap (λ b. b && list_all (list_all is_small) ys) h ∙ k

-- the prefixes of a chain that are small are not clamped
kept_prefixes : (step : Interval → Interval → Interval) → KeepsProper step → (i : Interval) (js : List Interval)
    → IsProper i → AllByRecursion IsProper js → IsSmall i
    → AllByRecursion IsSmall (front_bounds step i js)
    → (front_bounds (λ a b. clamp_interval (step a b)) i js ≡ front_bounds step i js)
    × (fold (λ a b. clamp_interval (step a b)) i js ≡ fold step i js) × IsSmall (fold step i js)
kept_prefixes step keeps i [] order orders small h = (refl, refl, small)
kept_prefixes step keeps i (j ∷ js) order orders small h =
    let next = keeps i j order orders.0 in
    let same = small_kept (step i j) next h.0 in
    let rest = kept_prefixes step keeps (step i j) js next orders.1 h.0 h.1 in (
      ap (λ (k : Interval). k ∷ front_bounds (λ a b. clamp_interval (step a b)) k js) same
          ∙ ap (λ ks. step i j ∷ ks) rest.0,
      ap (λ (k : Interval). fold (λ a b. clamp_interval (step a b)) k js) same ∙ rest.1,
      rest.2,
    )

-- a term whose clamped bounds are all small, and exact
record IsExact (v : Vocabulary) (domains : List (List Elem)) (t : TermTree) (scope : List ℕ) : Type 0 where
  passes : PassAll (term_bounds v domains t scope)
  same : clamped_bounds v domains t scope ≡ bounds_of v domains t scope
  small : IsSmall (bounds_of v domains t scope)

mutual
  formula_exact : (v : Vocabulary) (domains : List (List Elem)) (f : FormulaTree) (scope : List ℕ)
      → IsBounded v domains f scope → PassAll (formula_bounds v domains f scope)
  formula_exact v domains verum scope h = refl
  formula_exact v domains falsum scope h = refl
  formula_exact v domains (atom s ts) scope h = (terms_exact v domains ts scope h).0
  formula_exact v domains (comparison c a b) scope h =
      passes_both (term_bounds v domains a scope) (term_bounds v domains b scope)
      (term_exact v domains a scope h.0).passes (term_exact v domains b scope h.1).passes
  formula_exact v domains (negation f) scope h = formula_exact v domains f scope h
  formula_exact v domains (conjunction fs) scope h = formulas_exact v domains fs scope h
  formula_exact v domains (disjunction fs) scope h = formulas_exact v domains fs scope h
  formula_exact v domains (implication f g) scope h =
      passes_both (formula_bounds v domains f scope) (formula_bounds v domains g scope)
      (formula_exact v domains f scope h.0) (formula_exact v domains g scope h.1)
  formula_exact v domains (equivalence f g) scope h =
      passes_both (formula_bounds v domains f scope) (formula_bounds v domains g scope)
      (formula_exact v domains f scope h.0) (formula_exact v domains g scope h.1)
  formula_exact v domains (universal bs f) scope h = formula_exact v domains f (scope ++ types_of bs) h
  formula_exact v domains (existential bs f) scope h = formula_exact v domains f (scope ++ types_of bs) h
  formula_exact v domains (numbered c k bs f) scope h = formula_exact v domains f (scope ++ types_of bs) h

  formulas_exact : (v : Vocabulary) (domains : List (List Elem)) (fs : FormulaTrees) (scope : List ℕ)
      → AreBounded v domains fs scope → PassAll (formulas_bounds v domains fs scope)
  formulas_exact v domains no_formulas scope h = refl
  formulas_exact v domains (more_formulas f fs) scope h =
      passes_both (formula_bounds v domains f scope) (formulas_bounds v domains fs scope)
      (formula_exact v domains f scope h.0) (formulas_exact v domains fs scope h.1)

  term_exact : (v : Vocabulary) (domains : List (List Elem)) (t : TermTree) (scope : List ℕ)
      → TermIsBounded v domains t scope → IsExact v domains t scope
  term_exact v domains (variable n) scope h = record {
    passes = passes_one (clamped_bounds v domains (variable n) scope)
        [] h refl;
    same = refl;
    small = h;
  }
  term_exact v domains (integer z) scope h = record {
    passes = passes_one (exactly z) [] h refl;
    same =
        refl;
    small = h;
  }
  term_exact v domains (constructed ty n) scope h = record {
    passes =
        passes_one (clamped_bounds v domains (constructed ty n) scope) [] h refl;
    same = refl;
    small = h;
  }
  term_exact v domains (application s ts) scope h = record {
    passes = passes_one (clamped_bounds v domains (application s ts) scope) (terms_bounds v domains ts scope) h.0
        (terms_exact v domains ts scope h.1).0;
    same = refl;
    small = h.0;
  }
  term_exact v domains (summation ss) scope h =
      let inner = summands_exact v domains ss scope h.1 in
      let chain = kept_prefixes interval_sum sum_proper (exactly (pos 0)) (summand_bounds v domains ss scope)
      (exactly_proper (pos 0)) (summands_proper v domains ss scope) (exactly_small 0 (omega arith)) h.0 in
      let own = ap (front_bounds clamping_sum (exactly (pos 0))) inner.1 ∙ chain.0 in
      record {
        passes = passes_first (bounds_at v domains (summation ss) scope) (summands_bounds v domains ss scope)
            (ap (list_all is_small) own ∙ all_tests (front_bounds interval_sum (exactly (pos 0))
            (summand_bounds v domains ss scope)) h.0) inner.0;
        same = ap (fold clamping_sum (exactly (pos 0))) inner.1 ∙ chain.1;
        small = chain.2;
      }
  term_exact v domains (product ts) scope h =
      let inner = terms_exact v domains ts scope h.1 in
      let chain = kept_prefixes interval_product product_proper (exactly (pos 1)) (factor_bounds v domains ts scope)
      (exactly_proper (pos 1)) (factors_proper v domains ts scope) (exactly_small 1 (omega arith)) h.0 in
      let own = ap (front_bounds clamping_product (exactly (pos 1))) inner.1 ∙ chain.0 in
      record {
        passes = passes_first (bounds_at v domains (product ts) scope) (terms_bounds v domains ts scope)
            (ap (list_all is_small) own ∙ all_tests (front_bounds interval_product (exactly (pos 1))
            (factor_bounds v domains ts scope)) h.0) inner.0;
        same = ap (fold clamping_product (exactly (pos 1))) inner.1 ∙ chain.1;
        small = chain.2;
      }
  term_exact v domains (aggregate k bs f t) scope h =
      let inner = scope ++ types_of bs in
      let n = length (choices domains bs) in
      let weight = term_exact v domains t inner h.2 in
      let exact = aggregate_bounds k n (bounds_of v domains t inner) in
      let kept = small_kept exact (aggregate_proper k n (bounds_of v domains t inner) (bounds_proper v domains t inner))
      h.0 in
      let same = ap (λ (i : Interval). clamp_interval (aggregate_bounds k n i)) weight.same ∙ kept in
      record {
        passes = passes_one (clamped_bounds v domains (aggregate k bs f t) scope)
            (formula_bounds v domains f inner ++ term_bounds v domains t inner) (subst IsSmall (sym same) h.0)
            (passes_both (formula_bounds v domains f inner) (term_bounds v domains t inner)
            (formula_exact v domains f inner h.1) weight.passes);
        same = same;
        small = h.0;
      }

  terms_exact : (v : Vocabulary) (domains : List (List Elem)) (ts : TermTrees) (scope : List ℕ)
      → TermsAreBounded v domains ts scope
      → PassAll (terms_bounds v domains ts scope) × (clamped_factors v domains ts scope
      ≡ factor_bounds v domains ts scope)
  terms_exact v domains no_terms scope h = (refl, refl)
  terms_exact v domains (more_terms t ts) scope h =
      let first = term_exact v domains t scope h.0 in
      let rest = terms_exact v domains ts scope h.1 in (
        passes_both (term_bounds v domains t scope) (terms_bounds v domains ts scope) first.passes rest.0,
        ap (λ (i : Interval). i ∷ clamped_factors v domains ts scope) first.same
            ∙ ap (λ is. bounds_of v domains t scope ∷ is) rest.1,
      )

  summands_exact : (v : Vocabulary) (domains : List (List Elem)) (ss : SummandTrees) (scope : List ℕ)
      → SummandsAreBounded v domains ss scope
      → PassAll (summands_bounds v domains ss scope) × (clamped_summands v domains ss scope
      ≡ summand_bounds v domains ss scope)
  summands_exact v domains no_summands scope h = (refl, refl)
  summands_exact v domains (more_summands minus t ss) scope h =
      let first = term_exact v domains t scope h.0 in
      let rest = summands_exact v domains ss scope h.1 in
      let own = signed_interval minus (bounds_of v domains t scope) in
      let kept = small_kept own (signed_proper minus (bounds_of v domains t scope) (bounds_proper v domains t scope))
      (signed_small minus (bounds_of v domains t scope) first.small) in (
        passes_both (term_bounds v domains t scope) (summands_bounds v domains ss scope) first.passes rest.0,
        ap (λ (i : Interval). clamp_interval (signed_interval minus i) ∷ clamped_summands v domains ss scope) first.same
            ∙ ap (λ (i : Interval). i ∷ clamped_summands v domains ss scope) kept
            ∙ ap (λ is. own ∷ is) rest.1,
      )

pub small_is_bounded : SmallIsBounded
small_is_bounded v domains f scope = (formula_bounded v domains f scope, formula_exact v domains f scope)

pub term_is_bounded : (v : Vocabulary) (domains : List (List Elem)) (t : TermTree) (scope : List ℕ)
    → PassAll (term_bounds v domains t scope) → TermIsBounded v domains t scope
term_is_bounded v domains t scope h = (term_bounded v domains t scope h).bounded

pub small_term_is_bounded : SmallTermIsBounded
small_term_is_bounded v domains t scope = (
  term_is_bounded v domains t scope,
  λ h. (term_exact v domains t scope h).passes,
)
