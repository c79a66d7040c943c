-- Known values lie within the static bounds, and small bounds are enough for `kleene`.
use Rattle.std.proofs.Common.{◌≡◌, ℕ, suc, ◌+◌, ◌≤◌, ℤ, pos, ◌+ℤ◌, List, [], ◌∷◌, ◌++◌, length, Bool, Option, None}
use Rattle.std.proofs.Common.{Some, IfSome, FitsSigned, w64, refl, sym, ap, ◌∙◌, subst, slice_get, arith}
use Rattle.std.specs.Option.{option_map, option_and_then}
use Rattle.std.specs.List.{AllByRecursion, Contains, fold}
use Rattle.std.proofs.lemmas.Int.{ints}
use Rattle.kb_logic.specs.declared.elements.Elem.{Elem}
use Rattle.kb_logic.specs.declared.vocabularies.Bound.{Bound}
use Rattle.kb_logic.specs.declared.vocabularies.Symbol.{Symbol}
use Rattle.kb_logic.specs.declared.vocabularies.Vocabulary.{Vocabulary}
use Rattle.kb_logic.specs.declared.structures.Structure.{Structure}
use Rattle.kb_logic.specs.declared.syntax.AggKind.{AggKind}
use Rattle.kb_logic.specs.Trees.{TermTree, variable, integer, constructed, application, summation, product, aggregate}
use Rattle.kb_logic.specs.Trees.{TermTrees, no_terms, more_terms, SummandTrees, no_summands, more_summands, FormulaTree}
use Rattle.kb_logic.specs.Trees.{verum, falsum, atom, comparison, negation, conjunction, disjunction, implication}
use Rattle.kb_logic.specs.Trees.{equivalence, universal, existential, numbered, FormulaTrees, no_formulas}
use Rattle.kb_logic.specs.Trees.{more_formulas}
use Rattle.kb_logic.specs.Structures.{domain_at, choices}
use Rattle.kb_logic.specs.Denotations.{Denotation, named, number, minus_infinity, plus_infinity, undefined}
use Rattle.kb_logic.specs.Denotations.{denotation_of, as_number, aggregate_value}
use Rattle.kb_logic.specs.Meaning.{summand_plus, number_value, product_from}
use Rattle.kb_logic.specs.Models.{HasValueIn}
use Rattle.kb_logic.specs.Arithmetic.{start, NumberFits, ProductFits}
use Rattle.kb_logic.specs.Bounds.{Interval, exactly, signed_interval, interval_sum, interval_product, aggregate_bounds}
use Rattle.kb_logic.specs.Bounds.{domain_if, range_of, value_type_of, types_of, bounds_of, factor_bounds}
use Rattle.kb_logic.specs.Bounds.{summand_bounds, front_bounds, IsSmall, TermIsBounded, TermsAreBounded}
use Rattle.kb_logic.specs.Bounds.{SummandsAreBounded, IsBounded, AreBounded, HasTypes, IsWithin, ValueIsWithin}
use Rattle.kb_logic.proofs.Aggregates.{aggregate_is_fold}
use Rattle.kb_logic.proofs.Choices.{is_choice}
use Rattle.kb_logic.proofs.FunctionValues.{element_within, variable_within, constructed_within}
use Rattle.kb_logic.proofs.Members.{in_all, first, later}
use Rattle.kb_logic.proofs.WithinBounds.{OptionIsWithin, Kept, number_within, plus_within, times_within, times_fits}
use Rattle.kb_logic.proofs.WithinBounds.{kept_start, kept_next, wider, kept_within, value_fits, fold_within}
use Rattle.kb_logic.proofs.WithinBounds.{as_number_within, choice_types, types-append, sum_alone, some_fits, last_small}
use Rattle.partial_structures.specs.KnownAtoms.{KnownAtoms}
use Rattle.certain_truth.specs.Certainty.{known_cons, chosen, known_weights, known_value, known_values, known_sum}
use Rattle.certain_truth.specs.Certainty.{certain_truth}
use Rattle.partial_structures.specs.Applications.{given_value, applied_known}
use Rattle.partial_structures.specs.Consistency.{IsConsistent}
use Rattle.certain_truth.specs.KnownArithmetic.{gathered, GatheredFits, known_front, ValueFits, ValuesFit, OperandsFit}
use Rattle.certain_truth.specs.KnownArithmetic.{CertaintyFits, PartsFit}
use Rattle.certain_truth.specs.Laws.{SmallBoundsFit, SmallTermsFit}
use Rattle.partial_structures.specs.declared.truths.Truth.{Truth}
use Rattle.partial_structures.specs.declared.truths.Truth.TheVariants.{Yes, No, Unknown}
use Rattle.certain_truth.proofs.Monotony.{given_result}

-- a value that is known is within
abbrev KnownWithin : Interval → Option Denotation → Type 0
KnownWithin i None = Unit {0}
KnownWithin i (Some d) = ValueIsWithin i d

-- a sum that is known is within, on top of z
abbrev SumWithin : Interval → ℤ → Option (Option ℤ) → Type 0
SumWithin i z None = Unit {0}
SumWithin i z (Some o) = OptionIsWithin i (option_map (λ s. z +ℤ s) o)

-- a product with factors that are known is within, on top of z
abbrev ProductWithin : Interval → ℤ → Option (List Denotation) → Type 0
ProductWithin i z None = Unit {0}
ProductWithin i z (Some vs) = OptionIsWithin i (product_from z vs)

-- weights that are known are within, and so many at most
abbrev WeightsWithin : Interval → ℕ → Option (List Denotation) → Type 0
WeightsWithin i n None = Unit {0}
WeightsWithin i n (Some vs) = AllByRecursion (ValueIsWithin i) vs × (length vs ≤ n)

abbrev KnownKept : AggKind → Interval → ℕ → Option Denotation → Type 0
KnownKept k i n None = Unit {0}
KnownKept k i n (Some d) = Kept k i n d

sum_of_known : (i : Interval) (p : Option (Option ℤ)) → SumWithin i (pos 0) p
    → KnownWithin i (option_map number_value p)
sum_of_known i None h = tt
sum_of_known i (Some o) h = number_within i o (sum_alone i o h)

sum_known_fits : (i : Interval) (p : Option (Option ℤ)) → IsSmall i → SumWithin i (pos 0) p
    → IfSome p (λ o. IfSome o (λ z. FitsSigned w64 z))
sum_known_fits i None small h = tt
sum_known_fits i (Some o) small h = some_fits i o small (sum_alone i o h)

product_of_known : (i : Interval) (o : Option (List Denotation)) → ProductWithin i (pos 1) o
    → KnownWithin i (option_map (λ vs. number_value (product_from (pos 1) vs)) o)
product_of_known i None h = tt
product_of_known i (Some vs) h = number_within i (product_from (pos 1) vs) h

plus_known : (minus : Bool) (p : Option Denotation) (q : Option (Option ℤ)) (a i whole : Interval) (z : ℤ)
    → KnownWithin a p → IsWithin i z
    → ((y : ℤ) → IsWithin (interval_sum i (signed_interval minus a)) y → SumWithin whole y q)
    → SumWithin whole z (elim p [ None ↦ None | Some v ↦ option_map (summand_plus minus v) q ])
plus_known minus None q a i whole z h k next = tt
plus_known minus (Some d) None a i whole z h k next = tt
plus_known minus (Some d) (Some o) a i whole z h k next = plus_within minus d o a i whole z h k next

times_known : (p : Option Denotation) (q : Option (List Denotation)) (a i whole : Interval) (z : ℤ) → KnownWithin a p
    → IsWithin i z
    → ((y : ℤ) → IsWithin (interval_product i a) y → ProductWithin whole y q) → ProductWithin whole z (known_cons p q)
times_known None q a i whole z h k next = tt
times_known (Some d) None a i whole z h k next = tt
times_known (Some d) (Some vs) a i whole z h k next = times_within d vs a i whole z h k next

front_fits : (p : Option Denotation) (vs : List Denotation) (a i : Interval) (z : ℤ) → KnownWithin a p → IsWithin i z
    → IsSmall (interval_product i a)
    → ((y : ℤ) → IsWithin (interval_product i a) y → ProductFits y vs)
    → ProductFits z (elim p [ None ↦ [] | Some v ↦ v ∷ vs ])
front_fits None vs a i z h k small next = tt
front_fits (Some d) vs a i z h k small next = times_fits d vs a i z h k small next

number_known : (i : Interval) (p : Option Denotation) → KnownWithin i p → KnownWithin i (option_map as_number p)
number_known i None h = tt
number_known i (Some d) h = as_number_within i d h

one_weight : (i : Interval) (n : ℕ) (t : Truth) (p : Option Denotation) (o : Option (List Denotation)) → KnownWithin i p
    → WeightsWithin i n o → WeightsWithin i (suc n) (chosen t p o)
one_weight i n Yes None o h k = tt
one_weight i n Yes (Some d) None h k = tt
one_weight i n Yes (Some d) (Some vs) h k = ((h, k.0), omega (arith, k.1))
one_weight i n No p None h k = tt
one_weight i n No p (Some vs) h k = (k.0, omega (arith, k.1))
one_weight i n Unknown p o h k = tt

kept_more : (k : AggKind) (i : Interval) (n : ℕ) (d : Denotation) → Kept k i n d → Kept k i (suc n) d
kept_more k i n (number z) h = wider k i n (suc n) z (omega arith) h
kept_more k i n (named b) h = tt
kept_more k i n minus_infinity h = tt
kept_more k i n plus_infinity h = tt
kept_more k i n undefined h = tt

gathered_kept : (k : AggKind) (i : Interval) (n : ℕ) (o : Option Denotation) (t : Truth) (p : Option Denotation)
    → KnownKept k i n o → KnownWithin i p → KnownKept k i (suc n) (gathered k o t p)
gathered_kept k i n None t p h w = tt
gathered_kept k i n (Some d) No p h w = kept_more k i n d h
gathered_kept k i n (Some d) Unknown p h w = tt
gathered_kept k i n (Some d) Yes None h w = tt
gathered_kept k i n (Some d) Yes (Some v) h w = kept_next k i n d v h w

kept_fits : (k : AggKind) (i : Interval) (n m : ℕ) (o : Option Denotation) → n ≤ m → IsSmall (aggregate_bounds k m i)
    → KnownKept k i n o → IfSome o NumberFits
kept_fits k i n m None le small h = tt
kept_fits k i n m (Some d) le small h = value_fits (aggregate_bounds k m i) d small (kept_within k i n m d le h)

module _ {X : Type 0} (i : Interval) (P : X → Truth) (V : X → Option Denotation) where
  weights_known : (xs : List X) → ((x : X) → Contains xs x → KnownWithin i (V x))
      → WeightsWithin i (length xs) (known_weights P V xs)
  weights_known [] h = (tt, omega arith)
  weights_known (x ∷ xs) h = one_weight i (length xs) (P x) (V x) (known_weights P V xs) (h x (first x xs))
      (weights_known xs (λ y at. h y (later x y xs at)))

  gathered_fits : (k : AggKind) (n m : ℕ) (o : Option Denotation) (xs : List X) → n + length xs ≤ m
      → IsSmall (aggregate_bounds k m i) → KnownKept k i n o → ((x : X) → Contains xs x → KnownWithin i (V x))
      → GatheredFits k P V o xs
  gathered_fits k n m o [] le small kept h = tt
  gathered_fits k n m o (x ∷ xs) le small kept h =
      let next = gathered_kept k i n o (P x) (V x) kept (h x (first x xs)) in (
        kept_fits k i (suc n) m (gathered k o (P x) (V x)) (omega (arith, le)) small next,
        gathered_fits k (suc n) m (gathered k o (P x) (V x)) xs (omega (arith, le)) small next
            (λ y at. h y (later x y xs at)),
      )

aggregate_known : (k : AggKind) (i : Interval) (n : ℕ) (o : Option (List Denotation)) → WeightsWithin i n o
    → KnownWithin (aggregate_bounds k n i) (option_map (aggregate_value k) o)
aggregate_known k i n None h = tt
aggregate_known k i n (Some vs) h = subst (ValueIsWithin (aggregate_bounds k n i)) (sym (aggregate_is_fold k vs))
    (fold_within k i 0 n (start k) vs (omega (arith, h.1)) (kept_start k i) h.0)

value_in : (domains : List (List Elem)) (o : Option ℕ) (x : Elem) → HasValueIn domains o (Some x)
    → ValueIsWithin (range_of (domain_if domains o)) (denotation_of x)
value_in domains None x h = absurd h
value_in domains (Some ty) x h = element_within (domain_at domains ty) x h

module _ (v : Vocabulary) (k : KnownAtoms) (symbols : v.symbols ≡ k.symbols) (whole : IsConsistent k) where
  inside : (bs : List Bound) (scope : List ℕ) (e a : List Elem) → HasTypes k.domains scope e
      → Contains (choices k.domains bs) a → HasTypes k.domains (scope ++ types_of bs) (e ++ a)
  inside bs scope e a h at =
      let m : Structure = record { domains = k.domains; relations = []; functions = [] } in
      types-append k.domains scope (types_of bs) e a h (choice_types m bs a (is_choice m bs a at))

  given_within : (s : ℕ) (vs : List Denotation) (x : Elem) → given_value s vs k.true_atoms ≡ Some x
      → ValueIsWithin (range_of (domain_if k.domains (value_type_of v s))) (denotation_of x)
  given_within s vs x e =
      let r = given_result k whole s vs x e in
      let at : slice_get v.symbols s ≡ Some r.0 = ap (λ (ss : List Symbol). slice_get ss s) symbols ∙ r.1 in
      let value : r.0.value ≡ value_type_of v s = sym (ap (option_and_then (λ (t : Symbol). t.value)) at) in
      subst (λ o. ValueIsWithin (range_of (domain_if k.domains o)) (denotation_of x)) value
      (value_in k.domains r.0.value x r.2)

  given_known : (s : ℕ) (vs : List Denotation) (o : Option Elem) → given_value s vs k.true_atoms ≡ o
      → KnownWithin (range_of (domain_if k.domains (value_type_of v s))) (option_map denotation_of o)
  given_known s vs None e = tt
  given_known s vs (Some x) e = given_within s vs x e

  applied_within : (s : ℕ) (o : Option (List Denotation)) → KnownWithin
      (range_of (domain_if k.domains (value_type_of v s))) (applied_known k s o)
  applied_within s None = tt
  applied_within s (Some vs) = given_known s vs (given_value s vs k.true_atoms) refl

  mutual
    value_within : (t : TermTree) (scope : List ℕ) (e : List Elem) → HasTypes k.domains scope e
        → KnownWithin (bounds_of v k.domains t scope) (known_value k t e)
    value_within (variable n) scope e h = variable_within k.domains scope e n h
    value_within (integer z) scope e h = record { low = omega (arith, ints); high = omega (arith, ints) }
    value_within (constructed ty n) scope e h = constructed_within (domain_at k.domains ty) n
    value_within (application s ts) scope e h = applied_within s (known_values k ts e)
    value_within (summation ss) scope e h =
        sum_of_known (bounds_of v k.domains (summation ss) scope) (known_sum k ss e)
        (sum_within ss scope e h (pos 0) (exactly (pos 0)) (record {
          low = omega (arith, ints);
          high =
              omega (arith, ints);
        }))
    value_within (product ts) scope e h =
        product_of_known (bounds_of v k.domains (product ts) scope) (known_values k ts e)
        (factors_within ts scope e h (pos 1) (exactly (pos 1))
        (record { low = omega (arith, ints); high = omega (arith, ints) }))
    value_within (aggregate kind bs f t) scope e h =
        let i = bounds_of v k.domains t (scope ++ types_of bs) in
        let P = λ (a : List Elem). certain_truth k f (e ++ a) in
        let V = λ (a : List Elem). option_map as_number (known_value k t (e ++ a)) in
        aggregate_known kind i (length (choices k.domains bs)) (known_weights P V (choices k.domains bs))
        (weights_known i P V (choices k.domains bs) (λ a at. number_known i (known_value k t (e ++ a))
        (value_within t (scope ++ types_of bs) (e ++ a) (inside bs scope e a h at))))

    sum_within : (ss : SummandTrees) (scope : List ℕ) (e : List Elem) → HasTypes k.domains scope e
        → (z : ℤ) (i : Interval) → IsWithin i z
        → SumWithin (fold interval_sum i (summand_bounds v k.domains ss scope)) z (known_sum k ss e)
    sum_within no_summands scope e h z i w = record {
      low = omega (arith, ints, w.low);
      high =
          omega (arith, ints, w.high);
    }
    sum_within (more_summands minus t ss) scope e h z i w =
        plus_known minus (known_value k t e) (known_sum k ss e) (bounds_of v k.domains t scope) i _ z
        (value_within t scope e h) w (λ y at. sum_within ss scope e h y _ at)

    factors_within : (ts : TermTrees) (scope : List ℕ) (e : List Elem) → HasTypes k.domains scope e
        → (z : ℤ) (i : Interval) → IsWithin i z
        → ProductWithin (fold interval_product i (factor_bounds v k.domains ts scope)) z (known_values k ts e)
    factors_within no_terms scope e h z i w = w
    factors_within (more_terms t ts) scope e h z i w =
        times_known (known_value k t e) (known_values k ts e) (bounds_of v k.domains t scope) i _ z
        (value_within t scope e h) w (λ y at. factors_within ts scope e h y _ at)

  product_fits : (ts : TermTrees) (scope : List ℕ) (e : List Elem) → HasTypes k.domains scope e → (z : ℤ) (i : Interval)
      → IsWithin i z
      → AllByRecursion IsSmall (front_bounds interval_product i (factor_bounds v k.domains ts scope))
      → ProductFits z (known_front k ts e)
  product_fits no_terms scope e h z i w small = tt
  product_fits (more_terms t ts) scope e h z i w small =
      front_fits (known_value k t e) (known_front k ts e) (bounds_of v k.domains t scope) i z (value_within t scope e h)
      w small.0 (λ y at. product_fits ts scope e h y _ at small.1)

  mutual
    term_fits : (t : TermTree) (scope : List ℕ) (e : List Elem) → HasTypes k.domains scope e
        → TermIsBounded v k.domains t scope → ValueFits k t e
    term_fits (variable n) scope e h small = tt
    term_fits (integer z) scope e h small = tt
    term_fits (constructed ty n) scope e h small = tt
    term_fits (application s ts) scope e h small = terms_fit ts scope e h small.1
    term_fits (summation ss) scope e h small =
        let none : IsSmall (exactly (pos 0)) = (omega (arith, ints), omega (arith, ints)) in
        let all = bounds_of v k.domains (summation ss) scope in (
          sum_known_fits all (known_sum k ss e) (last_small interval_sum (exactly (pos 0))
              (summand_bounds v k.domains ss scope) none small.0)
              (sum_within ss scope e h (pos 0) (exactly (pos 0)) (record {
                low = omega (arith, ints);
                high =
                    omega (arith, ints);
              })),
          operands_fit ss scope e h small.1,
        )
    term_fits (product ts) scope e h small = (
      terms_fit ts scope e h small.1,
      product_fits ts scope e h (pos 1) (exactly (pos 1))
          (record { low = omega (arith, ints); high = omega (arith, ints) }) small.0,
    )
    term_fits (aggregate kind bs f t) scope e h small =
        let i = bounds_of v k.domains t (scope ++ types_of bs) in
        let P = λ (a : List Elem). certain_truth k f (e ++ a) in
        let V = λ (a : List Elem). option_map as_number (known_value k t (e ++ a)) in (
          in_all (λ a. CertaintyFits k f (e ++ a) × ValueFits k t (e ++ a)) (choices k.domains bs) (λ a at.
              let inner = inside bs scope e a h at in (
                formula_fits f (scope ++ types_of bs) (e ++ a) inner small.1,
                term_fits t (scope ++ types_of bs)
                    (e ++ a) inner small.2,
              )),
          gathered_fits i P V kind 0 (length (choices k.domains bs)) (Some (start kind)) (choices k.domains bs)
              (omega arith) small.0 (kept_start kind i)
              (λ a at. number_known i (known_value k t (e ++ a)) (value_within t (scope ++ types_of bs) (e ++ a)
              (inside bs scope e a h at))),
        )

    terms_fit : (ts : TermTrees) (scope : List ℕ) (e : List Elem) → HasTypes k.domains scope e
        → TermsAreBounded v k.domains ts scope → ValuesFit k ts e
    terms_fit no_terms scope e h small = tt
    terms_fit (more_terms t ts) scope e h small = (term_fits t scope e h small.0, terms_fit ts scope e h small.1)

    operands_fit : (ss : SummandTrees) (scope : List ℕ) (e : List Elem) → HasTypes k.domains scope e
        → SummandsAreBounded v k.domains ss scope → OperandsFit k ss e
    operands_fit no_summands scope e h small = tt
    operands_fit (more_summands minus t ss) scope e h small = (
      term_fits t scope e h small.0,
      operands_fit ss scope e h small.1,
    )

    formula_fits : (f : FormulaTree) (scope : List ℕ) (e : List Elem) → HasTypes k.domains scope e
        → IsBounded v k.domains f scope → CertaintyFits k f e
    formula_fits verum scope e h small = tt
    formula_fits falsum scope e h small = tt
    formula_fits (atom s ts) scope e h small = terms_fit ts scope e h small
    formula_fits (comparison c a b) scope e h small = (term_fits a scope e h small.0, term_fits b scope e h small.1)
    formula_fits (negation f) scope e h small = formula_fits f scope e h small
    formula_fits (conjunction fs) scope e h small = formulas_fit fs scope e h small
    formula_fits (disjunction fs) scope e h small = formulas_fit fs scope e h small
    formula_fits (implication f g) scope e h small = (
      formula_fits f scope e h small.0,
      formula_fits g scope e h small.1,
    )
    formula_fits (equivalence f g) scope e h small = (
      formula_fits f scope e h small.0,
      formula_fits g scope e h small.1,
    )
    formula_fits (universal bs f) scope e h small = in_all (λ a. CertaintyFits k f (e ++ a)) (choices k.domains bs)
        (λ a at. formula_fits f (scope ++ types_of bs) (e ++ a) (inside bs scope e a h at) small)
    formula_fits (existential bs f) scope e h small = in_all (λ a. CertaintyFits k f (e ++ a)) (choices k.domains bs)
        (λ a at. formula_fits f (scope ++ types_of bs) (e ++ a) (inside bs scope e a h at) small)
    formula_fits (numbered c n bs f) scope e h small = in_all (λ a. CertaintyFits k f (e ++ a)) (choices k.domains bs)
        (λ a at. formula_fits f (scope ++ types_of bs) (e ++ a) (inside bs scope e a h at) small)

    formulas_fit : (fs : FormulaTrees) (scope : List ℕ) (e : List Elem) → HasTypes k.domains scope e
        → AreBounded v k.domains fs scope → PartsFit k fs e
    formulas_fit no_formulas scope e h small = tt
    formulas_fit (more_formulas f fs) scope e h small = (
      formula_fits f scope e h small.0,
      formulas_fit fs scope e h small.1,
    )

pub small_bounds_fit : SmallBoundsFit
small_bounds_fit v k symbols whole f scope e h small = formula_fits v k symbols whole f scope e h small

pub small_terms_fit : SmallTermsFit
small_terms_fit v k symbols whole t scope e h small = term_fits v k symbols whole t scope e h small
