-- Values lie within the static bounds, and small bounds are enough for `truth`.
use Rattle.std.proofs.Common.{◌≡◌, ℕ, suc, ◌+◌, ◌≤◌, cond, ℤ, pos, negsuc, neg_ℤ, ◌+ℤ◌, ◌*ℤ◌, ◌≤ℤ◌, List, [], ◌∷◌, ◌++◌}
use Rattle.std.proofs.Common.{length, Bool, true, false, Option, Some, None, IfSome, FitsSigned, w64, sym, subst, arith}
use Rattle.std.specs.Option.{option_map}
use Rattle.std.specs.List.{AllByRecursion, Contains, fold, filter}
use Rattle.std.proofs.lemmas.Int.{ints}
use Rattle.std.proofs.lemmas.Nat.{mul-le}
use Rattle.std.proofs.lemmas.List.{length-map}
use Rattle.std.proofs.lemmas.List.Sums.{length-filter, count_by-le-length}
use Rattle.kb_logic.specs.declared.elements.Elem.{Elem}
use Rattle.kb_logic.specs.declared.vocabularies.Bound.{Bound}
use Rattle.kb_logic.specs.declared.vocabularies.Vocabulary.{Vocabulary}
use Rattle.kb_logic.specs.declared.structures.Structure.{Structure}
use Rattle.kb_logic.specs.declared.syntax.AggKind.{AggKind}
use Rattle.kb_logic.specs.declared.syntax.AggKind.TheVariants as kind
use Rattle.kb_logic.specs.Trees.{TermTree, variable, integer, constructed, application, summation, product, aggregate}
use Rattle.kb_logic.specs.Trees.{TermTrees, no_terms, more_terms, SummandTrees, no_summands, more_summands, FormulaTree}
use Rattle.kb_logic.specs.Trees.{verum, falsum, atom, comparison, negation, conjunction, disjunction, implication}
use Rattle.kb_logic.specs.Trees.{equivalence, universal, existential, numbered, FormulaTrees, no_formulas}
use Rattle.kb_logic.specs.Trees.{more_formulas}
use Rattle.kb_logic.specs.Structures.{domain_at, IsStructure}
use Rattle.kb_logic.specs.Denotations.{Denotation, named, number, minus_infinity, plus_infinity, undefined, as_number}
use Rattle.kb_logic.specs.Denotations.{added, lower_value}
use Rattle.kb_logic.specs.Meaning.{assignments, value_of, values_of, truth_of, sum_of, summand_plus, number_value}
use Rattle.kb_logic.specs.Meaning.{product_from, values_where, signed_of}
use Rattle.kb_logic.specs.Arithmetic.{start, combined, NumberFits, FoldFits, ProductFits, TermFits, TermsFit}
use Rattle.kb_logic.specs.Arithmetic.{SummandsFit, ArithmeticFits, AllFit}
use Rattle.kb_logic.specs.Bounds.{Interval, exactly, signed_interval, interval_sum, interval_product, below_zero}
use Rattle.kb_logic.specs.Bounds.{above_zero, aggregate_bounds, types_of, bounds_of, factor_bounds, summand_bounds}
use Rattle.kb_logic.specs.Bounds.{front_bounds, IsSmall, TermIsBounded, TermsAreBounded, SummandsAreBounded, IsBounded}
use Rattle.kb_logic.specs.Bounds.{AreBounded, HasTypes, IsWithin, ValueIsWithin, ValuesLieWithinBounds, SmallBoundsFit}
use Rattle.kb_logic.specs.Bounds.{SmallTermsFit}
use Rattle.kb_logic.specs.Laws.{IsChoice}
use Rattle.kb_logic.proofs.Aggregates.{aggregate_is_fold}
use Rattle.kb_logic.proofs.Choices.{is_choice}
use Rattle.kb_logic.proofs.FunctionValues.{variable_within, constructed_within, function_within}
use Rattle.kb_logic.proofs.Intervals.{product_within}
use Rattle.kb_logic.proofs.Members.{in_all, from_map, from_filter}

abbrev pub OptionIsWithin : Interval → Option ℤ → Type 0
OptionIsWithin i None = Unit {0}
OptionIsWithin i (Some z) = IsWithin i z

pub number_within : (i : Interval) (o : Option ℤ) → OptionIsWithin i o → ValueIsWithin i (number_value o)
number_within i None h = tt
number_within i (Some z) h = h

pub signed_within : (minus : Bool) (a i : Interval) (n z : ℤ) → IsWithin a n → IsWithin i z
    → IsWithin (interval_sum i (signed_interval minus a)) (z +ℤ signed_of minus n)
signed_within true a i n z h k = record {
  low = omega (arith, ints, h.high, k.low);
  high =
      omega (arith, ints, h.low, k.high);
}
signed_within false a i n z h k = record {
  low = omega (arith, ints, h.low, k.low);
  high =
      omega (arith, ints, h.high, k.high);
}

-- one operand of a sum, where y is the sum of those before it
pub plus_within : (minus : Bool) (d : Denotation) (o : Option ℤ) (a i whole : Interval) (z : ℤ) → ValueIsWithin a d
    → IsWithin i z
    → ((y : ℤ) → IsWithin (interval_sum i (signed_interval minus a)) y
    → OptionIsWithin whole (option_map (λ s. y +ℤ s) o)) → OptionIsWithin whole
    (option_map (λ s. z +ℤ s) (summand_plus minus d o))
plus_within minus (number n) (Some s) a i whole z h k next =
    let regroup : (z +ℤ signed_of minus n) +ℤ s ≡ z +ℤ (signed_of minus n +ℤ s) = omega (arith, ints) in
    subst (IsWithin whole) regroup (next (z +ℤ signed_of minus n) (signed_within minus a i n z h k))
plus_within minus (number n) None a i whole z h k next = tt
plus_within minus (named n) o a i whole z h k next = tt
plus_within minus minus_infinity o a i whole z h k next = tt
plus_within minus plus_infinity o a i whole z h k next = tt
plus_within minus undefined o a i whole z h k next = tt

-- one factor of a product, where z is the product of those before it
pub times_within : (d : Denotation) (vs : List Denotation) (a i whole : Interval) (z : ℤ) → ValueIsWithin a d
    → IsWithin i z
    → ((y : ℤ) → IsWithin (interval_product i a) y → OptionIsWithin whole (product_from y vs))
    → OptionIsWithin whole (product_from z (d ∷ vs))
times_within (number n) vs a i whole z h k next = next (z *ℤ n) (product_within i a z n k h)
times_within (named n) vs a i whole z h k next = tt
times_within minus_infinity vs a i whole z h k next = tt
times_within plus_infinity vs a i whole z h k next = tt
times_within undefined vs a i whole z h k next = tt

pub within_fits : (i : Interval) (z : ℤ) → IsSmall i → IsWithin i z → FitsSigned w64 z
within_fits i z small h = omega (arith, ints, small.0, small.1, h.low, h.high)

pub times_fits : (d : Denotation) (vs : List Denotation) (a i : Interval) (z : ℤ) → ValueIsWithin a d → IsWithin i z
    → IsSmall (interval_product i a)
    → ((y : ℤ) → IsWithin (interval_product i a) y → ProductFits y vs) → ProductFits z (d ∷ vs)
times_fits (number n) vs a i z h k small next = let here = product_within i a z n k h in
    (within_fits (interval_product i a) (z *ℤ n) small here, next (z *ℤ n) here)
times_fits (named n) vs a i z h k small next = tt
times_fits minus_infinity vs a i z h k small next = tt
times_fits plus_infinity vs a i z h k small next = tt
times_fits undefined vs a i z h k small next = tt

-- what is kept as an aggregate goes over its first n values
abbrev pub Kept : AggKind → Interval → ℕ → Denotation → Type 0
Kept k i n (number z) = IsWithin (aggregate_bounds k n i) z
Kept k i n _ = Unit {0}

pub kept_start : (k : AggKind) (i : Interval) → Kept k i 0 (start k)
kept_start kind.Count i = record { low = omega (arith, ints); high = omega (arith, ints) }
kept_start kind.Sum i = record { low = omega (arith, ints); high = omega (arith, ints) }
kept_start kind.Min i = tt
kept_start kind.Max i = tt

kept_count : (i : Interval) (n : ℕ) (a : Denotation) → Kept kind.Count i n a
    → Kept kind.Count i (suc n) (added a (number (pos 1)))
kept_count i n (number z) h = record { low = omega (arith, ints, h.low); high = omega (arith, ints, h.high) }
kept_count i n (named b) h = tt
kept_count i n minus_infinity h = tt
kept_count i n plus_infinity h = tt
kept_count i n undefined h = tt

low_part : (z y : ℤ) → z ≤ℤ y → neg_ℤ (pos (below_zero z)) ≤ℤ y
low_part (pos n) y h = omega (arith, ints, h)
low_part (negsuc n) y h = omega (arith, ints, h)

high_part : (z y : ℤ) → y ≤ℤ z → y ≤ℤ pos (above_zero z)
high_part (pos n) y h = omega (arith, ints, h)
high_part (negsuc n) y h = omega (arith, ints, h)

kept_sum : (i : Interval) (n : ℕ) (a v : Denotation) → Kept kind.Sum i n a → ValueIsWithin i v
    → Kept kind.Sum i (suc n) (added a v)
kept_sum i n (number z) (number y) h k = record {
  low = omega (arith, ints, h.low, low_part i.low y k.low);
  high =
      omega (arith, ints, h.high, high_part i.high y k.high);
}
kept_sum i n (number z) (named b) h k = tt
kept_sum i n (number z) minus_infinity h k = tt
kept_sum i n (number z) plus_infinity h k = tt
kept_sum i n (number z) undefined h k = tt
kept_sum i n (named b) v h k = tt
kept_sum i n minus_infinity v h k = tt
kept_sum i n plus_infinity v h k = tt
kept_sum i n undefined v h k = tt

either : (P : Denotation → Type 0) (b : Bool) (x y : Denotation) → P x → P y → P (cond b x y)
either P true x y h k = h
either P false x y h k = k

pub kept_next : (k : AggKind) (i : Interval) (n : ℕ) (a v : Denotation) → Kept k i n a → ValueIsWithin i v
    → Kept k i (suc n) (combined k a v)
kept_next kind.Count i n a v h here = kept_count i n a h
kept_next kind.Sum i n a v h here = kept_sum i n a v h here
kept_next kind.Min i n a v h here = either (ValueIsWithin i) (lower_value v a) v a here h
kept_next kind.Max i n a v h here = either (ValueIsWithin i) (lower_value a v) v a here h

pub wider : (k : AggKind) (i : Interval) (n m : ℕ) (z : ℤ) → n ≤ m → IsWithin (aggregate_bounds k n i) z
    → IsWithin (aggregate_bounds k m i) z
wider kind.Count i n m z h w = record { low = w.low; high = omega (arith, ints, w.high) }
wider kind.Sum i n m z h w =
    let lows = mul-le n (below_zero i.low) m (below_zero i.low) h (omega arith) in
    let highs = mul-le n (above_zero i.high) m (above_zero i.high) h (omega arith) in
    record { low = omega (arith, ints, w.low, lows); high = omega (arith, ints, w.high, highs) }
wider kind.Min i n m z h w = w
wider kind.Max i n m z h w = w

pub kept_within : (k : AggKind) (i : Interval) (n m : ℕ) (a : Denotation) → n ≤ m → Kept k i n a
    → ValueIsWithin (aggregate_bounds k m i) a
kept_within k i n m (number z) h kept = wider k i n m z h kept
kept_within k i n m (named b) h kept = tt
kept_within k i n m minus_infinity h kept = tt
kept_within k i n m plus_infinity h kept = tt
kept_within k i n m undefined h kept = tt

pub value_fits : (i : Interval) (a : Denotation) → IsSmall i → ValueIsWithin i a → NumberFits a
value_fits i (number z) small h = within_fits i z small h
value_fits i (named b) small h = tt
value_fits i minus_infinity small h = tt
value_fits i plus_infinity small h = tt
value_fits i undefined small h = tt

fold_fits : (k : AggKind) (i : Interval) (n m : ℕ) (a : Denotation) (vs : List Denotation) → n + length vs ≤ m
    → IsSmall (aggregate_bounds k m i) → Kept k i n a → AllByRecursion (ValueIsWithin i) vs → FoldFits k a vs
fold_fits k i n m a [] h small kept each = tt
fold_fits k i n m a (v ∷ vs) h small kept each =
    let next = kept_next k i n a v kept each.0 in (
      value_fits (aggregate_bounds k m i) (combined k a v) small (kept_within k i (suc n) m (combined k a v)
          (omega arith) next),
      fold_fits k i (suc n) m (combined k a v) vs (omega arith) small next each.1,
    )

pub fold_within : (k : AggKind) (i : Interval) (n m : ℕ) (a : Denotation) (vs : List Denotation) → n + length vs ≤ m
    → Kept k i n a → AllByRecursion (ValueIsWithin i) vs → ValueIsWithin (aggregate_bounds k m i)
    (fold (combined k) a vs)
fold_within k i n m a [] h kept each = kept_within k i n m a (omega arith) kept
fold_within k i n m a (v ∷ vs) h kept each = fold_within k i (suc n) m (combined k a v) vs (omega arith)
    (kept_next k i n a v kept each.0) each.1

pub as_number_within : (i : Interval) (x : Denotation) → ValueIsWithin i x → ValueIsWithin i (as_number x)
as_number_within i (number z) h = h
as_number_within i (named b) h = tt
as_number_within i minus_infinity h = tt
as_number_within i plus_infinity h = tt
as_number_within i undefined h = tt

values_within : (i : Interval) (P : List Elem → Bool) (V : List Elem → Denotation) (all : List (List Elem))
    → ((a : List Elem) → Contains all a → ValueIsWithin i (V a)) → AllByRecursion (ValueIsWithin i)
    (values_where P V all)
values_within i P V all each =
    in_all (ValueIsWithin i) (values_where P V all) (λ d at. let r = from_map V (filter P all) d at in
    subst (ValueIsWithin i) r.2 (each r.0 (from_filter P all r.0 r.1)))

fewer_values : (P : List Elem → Bool) (V : List Elem → Denotation) (all : List (List Elem))
    → length (values_where P V all) ≤ length all
fewer_values P V all = simp (length-map, length-filter) (count_by-le-length P all)

pub choice_types : (m : Structure) (bs : List Bound) (a : List Elem) → IsChoice m bs a
    → HasTypes m.domains (types_of bs) a
choice_types m [] [] h = tt
choice_types m [] (x ∷ a) h = absurd h
choice_types m (b ∷ bs) [] h = absurd h
choice_types m (b ∷ bs) (x ∷ a) h = (h.0, choice_types m bs a h.1)

pub types-append : (domains : List (List Elem)) (xs ys : List ℕ) (e a : List Elem) → HasTypes domains xs e
    → HasTypes domains ys a → HasTypes domains (xs ++ ys) (e ++ a)
types-append domains [] ys [] a h k = k
types-append domains [] ys (x ∷ e) a h k = absurd h
types-append domains (ty ∷ xs) ys [] a h k = absurd h
types-append domains (ty ∷ xs) ys (x ∷ e) a h k = (h.0, types-append domains xs ys e a h.1 k)

pub sum_alone : (i : Interval) (o : Option ℤ) → OptionIsWithin i (option_map (λ s. pos 0 +ℤ s) o) → OptionIsWithin i o
sum_alone i None h = tt
sum_alone i (Some z) h = record { low = omega (arith, ints, h.low); high = omega (arith, ints, h.high) }

pub some_fits : (i : Interval) (o : Option ℤ) → IsSmall i → OptionIsWithin i o → IfSome o (λ z. FitsSigned w64 z)
some_fits i None small h = tt
some_fits i (Some z) small h = within_fits i z small h

pub last_small : (step : Interval → Interval → Interval) (i : Interval) (js : List Interval) → IsSmall i
    → AllByRecursion IsSmall (front_bounds step i js) → IsSmall (fold step i js)
last_small step i [] h each = h
last_small step i (j ∷ js) h each = last_small step (step i j) js each.0 each.1

module _ (v : Vocabulary) (m : Structure) (is : IsStructure v m) where
  inside : (bs : List Bound) (scope : List ℕ) (e a : List Elem) → HasTypes m.domains scope e
      → Contains (assignments m bs) a → HasTypes m.domains (scope ++ types_of bs) (e ++ a)
  inside bs scope e a h at = types-append m.domains scope (types_of bs) e a h
      (choice_types m bs a (is_choice m bs a at))

  mutual
    value_within : (t : TermTree) (scope : List ℕ) (e : List Elem) → HasTypes m.domains scope e
        → ValueIsWithin (bounds_of v m.domains t scope) (value_of m t e)
    value_within (variable n) scope e h = variable_within m.domains scope e n h
    value_within (integer z) scope e h = record { low = omega (arith, ints); high = omega (arith, ints) }
    value_within (constructed ty n) scope e h = constructed_within (domain_at m.domains ty) n
    value_within (application s ts) scope e h = function_within v m is s (values_of m ts e)
    value_within (summation ss) scope e h =
        number_within (bounds_of v m.domains (summation ss) scope) (sum_of m ss e)
        (sum_alone (bounds_of v m.domains (summation ss) scope) (sum_of m ss e)
        (sum_within ss scope e h (pos 0) (exactly (pos 0)) (record {
          low = omega (arith, ints);
          high =
              omega (arith, ints);
        })))
    value_within (product ts) scope e h =
        number_within (bounds_of v m.domains (product ts) scope) (product_from (pos 1) (values_of m ts e))
        (factors_within ts scope e h (pos 1) (exactly (pos 1)) (record {
          low = omega (arith, ints);
          high =
              omega (arith, ints);
        }))
    value_within (aggregate k bs f t) scope e h =
        let i = bounds_of v m.domains t (scope ++ types_of bs) in
        let P = λ (a : List Elem). truth_of m f (e ++ a) in
        let V = λ (a : List Elem). as_number (value_of m t (e ++ a)) in
        let vs = values_where P V (assignments m bs) in
        subst (ValueIsWithin (bounds_of v m.domains (aggregate k bs f t) scope)) (sym (aggregate_is_fold k vs))
        (fold_within k i 0 (length (assignments m bs)) (start k) vs (omega (arith, fewer_values P V (assignments m bs)))
        (kept_start k i)
        (values_within i P V (assignments m bs) (λ a at. as_number_within i (value_of m t (e ++ a))
        (value_within t (scope ++ types_of bs) (e ++ a) (inside bs scope e a h at)))))

    sum_within : (ss : SummandTrees) (scope : List ℕ) (e : List Elem) → HasTypes m.domains scope e
        → (z : ℤ) (i : Interval) → IsWithin i z
        → OptionIsWithin (fold interval_sum i (summand_bounds v m.domains ss scope))
        (option_map (λ s. z +ℤ s) (sum_of m ss e))
    sum_within no_summands scope e h z i k = record {
      low = omega (arith, ints, k.low);
      high =
          omega (arith, ints, k.high);
    }
    sum_within (more_summands minus t ss) scope e h z i k =
        plus_within minus (value_of m t e) (sum_of m ss e) (bounds_of v m.domains t scope) i _ z
        (value_within t scope e h) k (λ y at. sum_within ss scope e h y _ at)

    factors_within : (ts : TermTrees) (scope : List ℕ) (e : List Elem) → HasTypes m.domains scope e
        → (z : ℤ) (i : Interval) → IsWithin i z
        → OptionIsWithin (fold interval_product i (factor_bounds v m.domains ts scope))
        (product_from z (values_of m ts e))
    factors_within no_terms scope e h z i k = k
    factors_within (more_terms t ts) scope e h z i k =
        times_within (value_of m t e) (values_of m ts e) (bounds_of v m.domains t scope) i _ z
        (value_within t scope e h) k (λ y at. factors_within ts scope e h y _ at)

  product_fits : (ts : TermTrees) (scope : List ℕ) (e : List Elem) → HasTypes m.domains scope e → (z : ℤ) (i : Interval)
      → IsWithin i z
      → AllByRecursion IsSmall (front_bounds interval_product i (factor_bounds v m.domains ts scope))
      → ProductFits z (values_of m ts e)
  product_fits no_terms scope e h z i k small = tt
  product_fits (more_terms t ts) scope e h z i k small =
      times_fits (value_of m t e) (values_of m ts e) (bounds_of v m.domains t scope) i z (value_within t scope e h) k
      small.0 (λ y at. product_fits ts scope e h y _ at small.1)

  mutual
    term_fits : (t : TermTree) (scope : List ℕ) (e : List Elem) → HasTypes m.domains scope e
        → TermIsBounded v m.domains t scope → TermFits m t e
    term_fits (variable n) scope e h small = tt
    term_fits (integer z) scope e h small = tt
    term_fits (constructed ty n) scope e h small = tt
    term_fits (application s ts) scope e h small = terms_fit ts scope e h small.1
    term_fits (summation ss) scope e h small =
        let start : IsSmall (exactly (pos 0)) = (omega (arith, ints), omega (arith, ints)) in
        let whole = bounds_of v m.domains (summation ss) scope in
        let within = sum_alone whole (sum_of m ss e) (sum_within ss scope e h (pos 0) (exactly (pos 0))
        (record { low = omega (arith, ints); high = omega (arith, ints) })) in (
          some_fits whole (sum_of m ss e) (last_small interval_sum (exactly (pos 0))
              (summand_bounds v m.domains ss scope) start small.0) within,
          summands_fit ss scope e h small.1,
        )
    term_fits (product ts) scope e h small = (
      terms_fit ts scope e h small.1,
      product_fits ts scope e h (pos 1) (exactly (pos 1))
          (record { low = omega (arith, ints); high = omega (arith, ints) }) small.0,
    )
    term_fits (aggregate k bs f t) scope e h small =
        let i = bounds_of v m.domains t (scope ++ types_of bs) in
        let P = λ (a : List Elem). truth_of m f (e ++ a) in
        let V = λ (a : List Elem). as_number (value_of m t (e ++ a)) in
        let vs = values_where P V (assignments m bs) in (
          in_all (λ a. ArithmeticFits m f (e ++ a) × TermFits m t (e ++ a)) (assignments m bs) (λ a at.
              let inner = inside bs scope e a h at in (
                formula_fits f (scope ++ types_of bs) (e ++ a) inner small.1,
                term_fits t (scope ++ types_of bs)
                    (e ++ a) inner small.2,
              )),
          fold_fits k i 0 (length (assignments m bs)) (start k) vs (omega (arith, fewer_values P V (assignments m bs)))
              small.0 (kept_start k i)
              (values_within i P V (assignments m bs) (λ a at. as_number_within i (value_of m t (e ++ a))
              (value_within t (scope ++ types_of bs) (e ++ a) (inside bs scope e a h at)))),
        )

    terms_fit : (ts : TermTrees) (scope : List ℕ) (e : List Elem) → HasTypes m.domains scope e
        → TermsAreBounded v m.domains ts scope → TermsFit m ts e
    terms_fit no_terms scope e h small = tt
    terms_fit (more_terms t ts) scope e h small = (term_fits t scope e h small.0, terms_fit ts scope e h small.1)

    summands_fit : (ss : SummandTrees) (scope : List ℕ) (e : List Elem) → HasTypes m.domains scope e
        → SummandsAreBounded v m.domains ss scope → SummandsFit m ss e
    summands_fit no_summands scope e h small = tt
    summands_fit (more_summands minus t ss) scope e h small = (
      term_fits t scope e h small.0,
      summands_fit ss scope e h small.1,
    )

    formula_fits : (f : FormulaTree) (scope : List ℕ) (e : List Elem) → HasTypes m.domains scope e
        → IsBounded v m.domains f scope → ArithmeticFits m f e
    formula_fits verum scope e h small = tt
    formula_fits falsum scope e h small = tt
    formula_fits (atom s ts) scope e h small = terms_fit ts scope e h small
    formula_fits (comparison c a b) scope e h small = (term_fits a scope e h small.0, term_fits b scope e h small.1)
    formula_fits (negation f) scope e h small = formula_fits f scope e h small
    formula_fits (conjunction fs) scope e h small = formulas_fit fs scope e h small
    formula_fits (disjunction fs) scope e h small = formulas_fit fs scope e h small
    formula_fits (implication f g) scope e h small = (
      formula_fits f scope e h small.0,
      formula_fits g scope e h small.1,
    )
    formula_fits (equivalence f g) scope e h small = (
      formula_fits f scope e h small.0,
      formula_fits g scope e h small.1,
    )
    formula_fits (universal bs f) scope e h small = in_all (λ a. ArithmeticFits m f (e ++ a)) (assignments m bs)
        (λ a at. formula_fits f (scope ++ types_of bs) (e ++ a) (inside bs scope e a h at) small)
    formula_fits (existential bs f) scope e h small = in_all (λ a. ArithmeticFits m f (e ++ a)) (assignments m bs)
        (λ a at. formula_fits f (scope ++ types_of bs) (e ++ a) (inside bs scope e a h at) small)
    formula_fits (numbered c n bs f) scope e h small = in_all (λ a. ArithmeticFits m f (e ++ a)) (assignments m bs)
        (λ a at. formula_fits f (scope ++ types_of bs) (e ++ a) (inside bs scope e a h at) small)

    formulas_fit : (fs : FormulaTrees) (scope : List ℕ) (e : List Elem) → HasTypes m.domains scope e
        → AreBounded v m.domains fs scope → AllFit m fs e
    formulas_fit no_formulas scope e h small = tt
    formulas_fit (more_formulas f fs) scope e h small = (
      formula_fits f scope e h small.0,
      formulas_fit fs scope e h small.1,
    )

pub values_lie_within_bounds : ValuesLieWithinBounds
values_lie_within_bounds v m is t scope e h = value_within v m is t scope e h

pub small_bounds_fit : SmallBoundsFit
small_bounds_fit v m is f scope e h small = formula_fits v m is f scope e h small

pub small_terms_fit : SmallTermsFit
small_terms_fit v m is t scope e h small = term_fits v m is t scope e h small
