-- The value of a side of a comparison: what its aggregates come to, and what its rows say.
use Rattle.std.proofs.Common.{◌≡◌, ℤ, pos, ◌+ℤ◌, ◌*ℤ◌, Bool, true, false, List, [], ◌∷◌, ◌++◌, ℕ, cond}
use Rattle.std.proofs.Common.{Some, map, filter, fold, length, if◌then◌else◌, refl, sym, ap, subst, ◌∙◌}
use Rattle.std.proofs.Common.{arith, inl, inr}
use Rattle.std.specs.List.{list_all, AllByRecursion}
use Rattle.std.proofs.lemmas.Int.{ints}
use Rattle.std.proofs.Math.IntN.{*ℤ_comm}
use Rattle.kb_logic.specs.declared.elements.Elem.{Elem}
use Rattle.kb_logic.specs.declared.structures.Structure.{Structure}
use Rattle.kb_logic.specs.declared.syntax.AggKind.{AggKind}
use Rattle.kb_logic.specs.declared.syntax.AggKind.TheVariants as kind
use Rattle.kb_logic.specs.declared.vocabularies.Bound.{Bound}
use Rattle.kb_logic.specs.Denotations.{Denotation, number, as_number, added, aggregate_value}
use Rattle.kb_logic.specs.Meaning.{value_of, values_of, sum_of, truth_of, number_value, product_from, signed_of}
use Rattle.kb_logic.specs.Meaning.{summand_plus, values_where}
use Rattle.kb_logic.specs.Structures.{choices}
use Rattle.kb_logic.specs.Trees.{TermTree, variable, integer, constructed, application, summation, product, aggregate}
use Rattle.kb_logic.specs.Trees.{TermTrees, no_terms, more_terms, SummandTrees, no_summands, more_summands, FormulaTree}
use Rattle.kb_logic.proofs.Has.{Has}
use Rattle.lit_core.specs.declared.literals.Lit.{Lit}
use Rattle.lit_core.specs.Literals.{literal_value}
use Rattle.term_values.specs.GroundBases.{GroundBase, structure_of, IsOver}
use Rattle.term_values.specs.Rows.{rows_of_term, rows_of_terms, rows_of_sum, selected_values}
use Rattle.term_values.proofs.RowLaws.{term-right, selected-paired, selected-mapped}
use Rattle.def_ground.specs.AskedTerms.{number_of}
use Rattle.def_ground.specs.Counting.{has_aggregate, have_aggregates, signed_integer, integer_factor}
use Rattle.def_ground.specs.GroundForms.{IsNumberRow, IsNumberTerm, IsSignedInteger, AreSignedIntegers}
use Rattle.def_ground.specs.GroundForms.{IsAddend, AreGroundAddends, IsOneAddend, IsAdding}
use Rattle.def_ground.proofs.Products.{times-plus, plus-times, times-assoc, times-zero, times-one, one-times}
use Rattle.def_ground.proofs.SplitTerms.{counted_in, counted_summands, counted_factors, nothing-counted}
use Rattle.def_ground.proofs.SplitTerms.{no-factor-counted, ground-plain, both-false}

-- ---- the values of the instances of an aggregate

-- the weights of the instances that are true
abbrev pub weight_sum : (List Elem → Bool) → (List Elem → ℤ) → List (List Elem) → ℤ
weight_sum T W [] = pos 0
weight_sum T W (a ∷ as') = (if T a then W a else pos 0) +ℤ weight_sum T W as'

-- the weights are these numbers
abbrev pub AreNumbers : (List Elem → Denotation) → (List Elem → ℤ) → List (List Elem) → Type 0
AreNumbers V W as' = (a : List Elem) → Has as' a → V a ≡ number (W a)

pub sum-of-weights : (T : List Elem → Bool) (V : List Elem → Denotation) (W : List Elem → ℤ) (as' : List (List Elem))
    (y : ℤ) → AreNumbers V W as'
    → fold added (number y) (values_where T V as') ≡ number (y +ℤ weight_sum T W as')
sum-of-weights T V W [] y are = let same : y ≡ y +ℤ pos 0 = omega (arith, ints) in ap number same
sum-of-weights T V W (a ∷ as') y are = by_truth (T a) (λ z. sum-of-weights T V W as' z (λ c m. are c (inr m)))
  where
    by_truth : (c : Bool)
        → ((z : ℤ) → fold added (number z) (values_where T V as') ≡ number (z +ℤ weight_sum T W as'))
        → fold added (number y) (map V (cond c (a ∷ filter T as') (filter T as')))
        ≡ number (y +ℤ ((if c then W a else pos 0) +ℤ weight_sum T W as'))
    by_truth true rest =
        let same : (y +ℤ W a) +ℤ weight_sum T W as' ≡ y +ℤ (W a +ℤ weight_sum T W as') = omega (arith, ints) in
        ap (λ d. fold added (added (number y) d) (values_where T V as')) (are a (inl refl))
        ∙ rest (y +ℤ W a) ∙ ap number same
    by_truth false rest =
        let same : y +ℤ weight_sum T W as' ≡ y +ℤ (pos 0 +ℤ weight_sum T W as') = omega (arith, ints) in
        rest y ∙ ap number same

pub count-of-instances : (T : List Elem → Bool) (V : List Elem → Denotation) (as' : List (List Elem))
    → pos (length (values_where T V as')) ≡ weight_sum T (λ a. pos 1) as'
count-of-instances T V [] = refl
count-of-instances T V (a ∷ as') = by_truth (T a) (count-of-instances T V as')
  where
    by_truth : (c : Bool) → pos (length (values_where T V as')) ≡ weight_sum T (λ a. pos 1) as'
        → pos (length (map V (cond c (a ∷ filter T as') (filter T as'))))
        ≡ (if c then pos 1 else pos 0) +ℤ weight_sum T (λ a. pos 1) as'
    by_truth true e = omega (arith, ints, e)
    by_truth false e = omega (arith, ints, e)

-- what an instance weighs: 1 for a count
abbrev pub weight_for : AggKind → (List Elem → ℤ) → List Elem → ℤ
weight_for kind.Count W a = pos 1
weight_for kind.Sum W a = W a
weight_for kind.Min W a = W a
weight_for kind.Max W a = W a

-- a count or a sum is a number
pub adding-value : (k : AggKind) (T : List Elem → Bool) (V : List Elem → Denotation) (W : List Elem → ℤ)
    (as' : List (List Elem)) → IsAdding k → AreNumbers V W as'
    → aggregate_value k (values_where T V as') ≡ number (weight_sum T (weight_for k W) as')
adding-value kind.Count T V W as' h are = ap number (count-of-instances T V as')
adding-value kind.Sum T V W as' h are =
    let same : pos 0 +ℤ weight_sum T W as' ≡ weight_sum T W as' = omega (arith, ints) in
    sum-of-weights T V W as' (pos 0) are ∙ ap number same
adding-value kind.Min T V W as' h are = absurd h
adding-value kind.Max T V W as' h are = absurd h

-- ---- numbers of rows

abbrev pub IsNumberValue : Denotation → Type 0
IsNumberValue d = (z : ℤ) × (d ≡ number z)

pub selected-number : (v : ℕ → Bool) (rs : List (List Lit × Denotation)) (x : Denotation)
    → AllByRecursion IsNumberRow rs → selected_values v rs ≡ x ∷ [] → IsNumberValue x
selected-number v [] x h e = absurd cc
selected-number v (r ∷ rs) x h e =
    by_guards (list_all (literal_value v) r.0) e (λ k. selected-number v rs x h.1 k)
  where
    by_guards : (c : Bool) → (if c then r.1 ∷ selected_values v rs else selected_values v rs) ≡ x ∷ []
        → (selected_values v rs ≡ x ∷ [] → IsNumberValue x) → IsNumberValue x
    by_guards true k rest = let same : r.1 ≡ x = cc in subst IsNumberValue same h.0
    by_guards false k rest = rest k

pub number-is : (d : Denotation) → IsNumberValue d → d ≡ number (number_of d)
number-is d h = h.1 ∙ ap number (sym (ap number_of h.1))

pub all-has : {X : Type 0} (P : X → Type 0) (xs : List X) (x : X) → AllByRecursion P xs → Has xs x → P x
all-has P [] x h m = absurd m
all-has P (y ∷ ys) x h (inl e) = subst P e h.0
all-has P (y ∷ ys) x h (inr m) = all-has P ys x h.1 m

both-signed : (minus : Bool) (c l C r : ℤ)
    → signed_of minus (c +ℤ l) +ℤ (C +ℤ r) ≡ (signed_of minus c +ℤ C) +ℤ (signed_of minus l +ℤ r)
both-signed true c l C r = omega (arith, ints)
both-signed false c l C r = omega (arith, ints)

pub has-all : {X : Type 0} (P : X → Type 0) (xs : List X) → ((x : X) → Has xs x → P x) → AllByRecursion P xs
has-all P [] h = tt
has-all P (y ∷ ys) h = (h y (inl refl), has-all P ys (λ x m. h x (inr m)))

module _ (b : GroundBase) (v : ℕ → Bool) (over : IsOver b v) where
  abbrev m : Structure
  m = structure_of b v

  -- the rows select one number, which is what the aggregates leave of the term's value
  pub record Splits (t : TermTree) (e : List Elem) : Type 0 where
    pub left : ℤ
    pub rows : selected_values v (rows_of_term b t e) ≡ number left ∷ []
    pub value : value_of m t e ≡ number (counted_in m t e +ℤ left)

  pub record SumSplits (ss : SummandTrees) (e : List Elem) : Type 0 where
    pub left : ℤ
    pub rows : selected_values v (rows_of_sum b ss e) ≡ Some left ∷ []
    pub value : sum_of m ss e ≡ Some (counted_summands m ss e +ℤ left)

  record ProductSplits (ts : TermTrees) (e : List Elem) : Type 0 where
    factors : List Denotation
    left : ℤ
    rows : selected_values v (rows_of_terms b ts e) ≡ factors ∷ []
    made : (w : ℤ) → product_from w factors ≡ Some (w *ℤ left)
    value : (w : ℤ)
        → product_from w (values_of m ts e) ≡ Some (w *ℤ (integer_factor ts *ℤ counted_factors m ts e +ℤ left))

  -- a ground term of numbers
  pub number-term : (t : TermTree) (e : List Elem) → IsNumberTerm b t e → IsNumberValue (value_of m t e)
  number-term t e h =
      selected-number v (rows_of_term b t e) (value_of m t e) h.rows (term-right b v over e t h.term)

  plain-splits : (t : TermTree) (e : List Elem) → IsNumberTerm b t e → Splits t e
  plain-splits t e h =
      let z = number-term t e h in
      let none = nothing-counted m t e (ground-plain b t h.term) in
      let same : z.0 ≡ counted_in m t e +ℤ z.0 = omega (arith, ints, none) in
      record {
        left = z.0;
        rows = term-right b v over e t h.term ∙ ap (λ d. d ∷ []) z.1;
        value = z.1 ∙ ap number same;
      }

  -- an integer with signs
  record IsInteger (t : TermTree) (e : List Elem) (z : ℤ) : Type 0 where
    plain : has_aggregate t ≡ false
    rows : selected_values v (rows_of_term b t e) ≡ number z ∷ []
    value : value_of m t e ≡ number z

  signed-is : (t : TermTree) (e : List Elem) → IsSignedInteger t → IsInteger t e (signed_integer t)
  signed-is (variable n) e h = absurd h
  signed-is (integer z) e h = record { plain = refl; rows = refl; value = refl }
  signed-is (constructed ty n) e h = absurd h
  signed-is (application s ts) e h = absurd h
  signed-is (summation no_summands) e h = absurd h
  signed-is (summation (more_summands minus t no_summands)) e h =
      let one = signed-is t e h in
      let z = signed_integer t in
      let ends : signed_of minus z +ℤ pos 0 ≡ signed_of minus z = omega (arith, ints) in
      record {
        plain = both-false (has_aggregate t) false one.plain refl;
        rows =
            selected-mapped v number_value (rows_of_sum b (more_summands minus t no_summands) e)
            ∙ ap (map number_value) (selected-paired v (summand_plus minus) (rows_of_term b t e)
            (rows_of_sum b no_summands e) (number z) (Some (pos 0)) one.rows refl)
            ∙ ap (λ y. number y ∷ []) ends;
        value = ap (λ d. number_value (summand_plus minus d (Some (pos 0)))) one.value ∙ ap number ends;
      }
  signed-is (summation (more_summands minus t (more_summands sign u ss))) e h = absurd h
  signed-is (product ts) e h = absurd h
  signed-is (aggregate k bs f t) e h = absurd h

  -- factors that are integers
  record AreIntegers (ts : TermTrees) (e : List Elem) : Type 0 where
    plain : have_aggregates ts ≡ false
    factors : List Denotation
    rows : selected_values v (rows_of_terms b ts e) ≡ factors ∷ []
    made : (w : ℤ) → product_from w factors ≡ Some (w *ℤ integer_factor ts)
    value : (w : ℤ) → product_from w (values_of m ts e) ≡ Some (w *ℤ integer_factor ts)

  own-factor : (t : TermTree) → has_aggregate t ≡ false
      → (if has_aggregate t then pos 1 else signed_integer t) ≡ signed_integer t
  own-factor t h = ap (λ c. if c then pos 1 else signed_integer t) h

  integers-are : (ts : TermTrees) (e : List Elem) → AreSignedIntegers ts → AreIntegers ts e
  integers-are no_terms e h = record {
    plain = refl;
    factors = [];
    rows = refl;
    made = λ w. ap Some (sym (times-one w));
    value = λ w. ap Some (sym (times-one w));
  }
  integers-are (more_terms t ts) e h =
      let one = signed-is t e h.0 in
      let rest = integers-are ts e h.1 in
      let z = signed_integer t in
      let all : (w : ℤ) → (w *ℤ z) *ℤ integer_factor ts
      ≡ w *ℤ ((if has_aggregate t then pos 1 else signed_integer t) *ℤ integer_factor ts) =
      λ w. times-assoc w z (integer_factor ts)
      ∙ ap (λ y. w *ℤ (y *ℤ integer_factor ts)) (sym (own-factor t one.plain)) in
      record {
        plain = both-false (has_aggregate t) (have_aggregates ts) one.plain rest.plain;
        factors = number z ∷ rest.factors;
        rows =
            selected-paired v (λ x xs. x ∷ xs) (rows_of_term b t e) (rows_of_terms b ts e) (number z) rest.factors
            one.rows rest.rows;
        made = λ w. rest.made (w *ℤ z) ∙ ap Some (all w);
        value =
            λ w. ap (λ d. product_from w (d ∷ values_of m ts e)) one.value ∙ rest.value (w *ℤ z) ∙ ap Some (all w);
      }

  -- the one operand, and then integers
  first-product : (t : TermTree) (ts : TermTrees) (e : List Elem) → Splits t e → AreIntegers ts e
      → ProductSplits (more_terms t ts) e
  first-product t ts e one rest =
      let c = counted_in m t e in
      let F = integer_factor ts in
      let own = if has_aggregate t then pos 1 else signed_integer t in
      let none = no-factor-counted m ts e rest.plain in
      let counts : own *ℤ F *ℤ (c +ℤ counted_factors m ts e) ≡ c *ℤ F = by_kind (has_aggregate t) refl none in
      record {
        factors = number one.left ∷ rest.factors;
        left = one.left *ℤ F;
        rows =
            selected-paired v (λ x xs. x ∷ xs) (rows_of_term b t e) (rows_of_terms b ts e) (number one.left)
            rest.factors one.rows rest.rows;
        made = λ w. rest.made (w *ℤ one.left) ∙ ap Some (times-assoc w one.left F);
        value =
            λ w. ap (λ d. product_from w (d ∷ values_of m ts e)) one.value
            ∙ rest.value (w *ℤ (c +ℤ one.left))
            ∙ ap Some (times-assoc w (c +ℤ one.left) F ∙ ap (λ y. w *ℤ y)
            (plus-times c one.left F ∙ ap (λ y. y +ℤ one.left *ℤ F) (sym counts)));
      }
    where
      by_kind : (h : Bool) → has_aggregate t ≡ h → counted_factors m ts e ≡ pos 0
          → ((if h then pos 1 else signed_integer t) *ℤ integer_factor ts)
          *ℤ (counted_in m t e +ℤ counted_factors m ts e) ≡ counted_in m t e *ℤ integer_factor ts
      by_kind true is none =
          let F = integer_factor ts in
          let c = counted_in m t e in
          let same : c +ℤ counted_factors m ts e ≡ c = omega (arith, ints, none) in
          ap (λ y. (pos 1 *ℤ F) *ℤ y) same ∙ ap (λ y. y *ℤ c) (one-times F) ∙ *ℤ_comm F c
      by_kind false is none =
          let F = integer_factor ts in
          let c = counted_in m t e in
          let zero : c ≡ pos 0 = nothing-counted m t e is in
          let same : c +ℤ counted_factors m ts e ≡ pos 0 = omega (arith, ints, zero, none) in
          ap (λ y. (signed_integer t *ℤ F) *ℤ y) same ∙ times-zero (signed_integer t *ℤ F)
          ∙ sym (ap (λ y. y *ℤ F) zero ∙ *ℤ_comm (pos 0) F ∙ times-zero F)

  -- an integer, and then a product with the one operand
  later-product : (t : TermTree) (ts : TermTrees) (e : List Elem) → IsInteger t e (signed_integer t)
      → ProductSplits ts e → ProductSplits (more_terms t ts) e
  later-product t ts e one rest =
      let z = signed_integer t in
      let F = integer_factor ts in
      let C = counted_factors m ts e in
      let zero = nothing-counted m t e one.plain in
      let same : counted_in m t e +ℤ C ≡ C = omega (arith, ints, zero) in
      let counts : ((if has_aggregate t then pos 1 else signed_integer t) *ℤ F) *ℤ (counted_in m t e +ℤ C)
      ≡ z *ℤ (F *ℤ C) =
      ap (λ y. (y *ℤ F) *ℤ (counted_in m t e +ℤ C)) (own-factor t one.plain)
      ∙ ap (λ y. (z *ℤ F) *ℤ y) same ∙ times-assoc z F C in
      record {
        factors = number z ∷ rest.factors;
        left = z *ℤ rest.left;
        rows =
            selected-paired v (λ x xs. x ∷ xs) (rows_of_term b t e) (rows_of_terms b ts e) (number z) rest.factors
            one.rows rest.rows;
        made = λ w. rest.made (w *ℤ z) ∙ ap Some (times-assoc w z rest.left);
        value =
            λ w. ap (λ d. product_from w (d ∷ values_of m ts e)) one.value ∙ rest.value (w *ℤ z)
            ∙ ap Some (times-assoc w z (F *ℤ C +ℤ rest.left) ∙ ap (λ y. w *ℤ y)
            (times-plus z (F *ℤ C) rest.left ∙ ap (λ y. y +ℤ z *ℤ rest.left) (sym counts)));
      }

  -- the numbers of an aggregate's weights
  pub weights-are : (bs : List Bound) (t : TermTree) (e : List Elem)
      → AllByRecursion (λ a. IsNumberTerm b t (e ++ a)) (choices b.domains bs)
      → AreNumbers (λ a. as_number (value_of m t (e ++ a))) (λ a. number_of (value_of m t (e ++ a)))
      (choices b.domains bs)
  weights-are bs t e h a has =
      let z = number-term t (e ++ a) (all-has (λ a. IsNumberTerm b t (e ++ a)) (choices b.domains bs) a h has) in
      ap as_number z.1 ∙ ap number (sym (ap number_of z.1))

  aggregate-splits : (k : AggKind) (bs : List Bound) (f : FormulaTree) (t : TermTree) (e : List Elem) → IsAdding k
      → AllByRecursion (λ a. IsNumberTerm b t (e ++ a)) (choices b.domains bs) → Splits (aggregate k bs f t) e
  aggregate-splits k bs f t e adding h =
      let V : List Elem → Denotation = λ a. as_number (value_of m t (e ++ a)) in
      let is = adding-value k (λ a. truth_of m f (e ++ a)) V (λ a. number_of (value_of m t (e ++ a)))
      (choices b.domains bs) adding (weights-are bs t e h) in
      let z = counted_in m (aggregate k bs f t) e in
      let same : z ≡ z +ℤ pos 0 = omega (arith, ints) in
      record {
        left = pos 0;
        rows = refl;
        value = is ∙ ap number (sym (ap number_of is)) ∙ ap number same;
      }

  mutual
    pub addend-splits : (t : TermTree) (e : List Elem) → IsAddend b t e → Splits t e
    addend-splits (variable n) e h = plain-splits (variable n) e h
    addend-splits (integer z) e h =
        let same : z ≡ pos 0 +ℤ z = omega (arith, ints) in record { left = z; rows = refl; value = ap number same }
    addend-splits (constructed ty n) e h = plain-splits (constructed ty n) e h
    addend-splits (application s ts) e h = plain-splits (application s ts) e h
    addend-splits (summation ss) e h =
        let all = addends-split ss e h in
        record {
          left = all.left;
          rows = selected-mapped v number_value (rows_of_sum b ss e) ∙ ap (map number_value) all.rows;
          value = ap number_value all.value;
        }
    addend-splits (product ts) e (inl plain) = plain-splits (product ts) e plain
    addend-splits (product ts) e (inr one) =
        let all = one-splits ts e one in
        let whole = integer_factor ts *ℤ counted_factors m ts e +ℤ all.left in
        record {
          left = all.left;
          rows =
              selected-mapped v (λ vs. number_value (product_from (pos 1) vs)) (rows_of_terms b ts e)
              ∙ ap (map (λ vs. number_value (product_from (pos 1) vs))) all.rows
              ∙ ap (λ o. number_value o ∷ []) (all.made (pos 1)) ∙ ap (λ y. number y ∷ []) (one-times all.left);
          value = ap number_value (all.value (pos 1)) ∙ ap number (one-times whole);
        }
    addend-splits (aggregate k bs f t) e h = aggregate-splits k bs f t e h.0 h.2

    pub addends-split : (ss : SummandTrees) (e : List Elem) → AreGroundAddends b ss e → SumSplits ss e
    addends-split no_summands e h = record { left = pos 0; rows = refl; value = refl }
    addends-split (more_summands minus t ss) e h =
        let one = addend-splits t e h.0 in
        let rest = addends-split ss e h.1 in
        let c = counted_in m t e in
        let C = counted_summands m ss e in
        record {
          left = signed_of minus one.left +ℤ rest.left;
          rows =
              selected-paired v (summand_plus minus) (rows_of_term b t e) (rows_of_sum b ss e) (number one.left)
              (Some rest.left) one.rows rest.rows;
          value =
              ap (λ d. summand_plus minus d (sum_of m ss e)) one.value
              ∙ ap (summand_plus minus (number (c +ℤ one.left))) rest.value
              ∙ ap Some (both-signed minus c one.left C rest.left);
        }

    one-splits : (ts : TermTrees) (e : List Elem) → IsOneAddend b ts e → ProductSplits ts e
    one-splits no_terms e h = absurd h
    one-splits (more_terms t ts) e (inl h) =
        first-product t ts e (addend-splits t e h.0) (integers-are ts e h.1)
    one-splits (more_terms t ts) e (inr h) = later-product t ts e (signed-is t e h.0) (one-splits ts e h.1)
