-- Whether a sum reaches a number: the interval of its parts, and the constraint where it is open.
use Rattle.std.proofs.Common.{◌≡◌, ℕ, ◌+◌, ◌≤◌, ℤ, pos, ◌+ℤ◌, ◌-ℤ◌, ◌≤ℤ◌, int_lt, int_le, int_eq, Bool, true, false}
use Rattle.std.proofs.Common.{not}
use Rattle.std.proofs.Common.{◌||◌, if◌then◌else◌, List, [], ◌∷◌, get_or, refl, sym, ap, ◌∙◌, arith}
use Rattle.std.proofs.lemmas.Bool.Decides.{nat_tests}
use Rattle.std.proofs.lemmas.Int.{ints}
use Rattle.std.proofs.lemmas.List.Elements.{All-append, All-cons, All-nil}
use Rattle.kb_logic.specs.declared.elements.ExtInt.{ExtInt}
use Rattle.kb_logic.specs.declared.elements.ExtInt.TheVariants.{Num}
use Rattle.kb_logic.specs.declared.syntax.AggKind.TheVariants as kind
use Rattle.kb_logic.specs.declared.syntax.Cmp.TheVariants as cmp
use Rattle.kb_logic.specs.Denotations.{number, compared}
use Rattle.lit_core.specs.Literals.{literal_value}
use Rattle.ground_core.specs.declared.parts.Part.{Part}
use Rattle.ground_core.specs.declared.parts.AggCon.{AggCon}
use Rattle.ground_core.specs.Problems.{ProblemState, IsProblem, ArePartsOf, IsSumOf}
use Rattle.ground_core.specs.Meaning.{parts_value, shifted}
use Rattle.ground_core.specs.Growth.{next_lit, with_sum}
use Rattle.ground_core.proofs.Mores.{sum-added}
use Rattle.def_ground.specs.declared.answers.Answer.TheVariants.{Constant, Literal}
use Rattle.def_ground.specs.Answers.{GroundResult}
use Rattle.def_ground.specs.Linear.{Linear, lowest, highest, sum_reaches}
use Rattle.def_ground.specs.LinearValues.{linear_value, IsLinear}
use Rattle.def_ground.specs.Meanings.{Means}
use Rattle.def_ground.proofs.FormSteps.{means-then}
use Rattle.def_ground.proofs.Growing.{lit-more, lits-more, more-refl}
use Rattle.def_ground.proofs.LinearParts.{counted, part_sum, parts-sum}

-- ---- the interval

low-part : (w : ℤ) (b t : Bool) → int_lt w (pos 0) ≡ t → (if t then w else pos 0) ≤ℤ counted b w
low-part w true true e = omega (arith, ints)
low-part w false true e = grind (arith, ints, nat_tests)
low-part w true false e = grind (arith, ints, nat_tests)
low-part w false false e = omega (arith, ints)

high-part : (w : ℤ) (b t : Bool) → int_lt w (pos 0) ≡ t → counted b w ≤ℤ (if t then pos 0 else w)
high-part w true true e = grind (arith, ints, nat_tests)
high-part w false true e = omega (arith, ints)
high-part w true false e = omega (arith, ints)
high-part w false false e = grind (arith, ints, nat_tests)

low-all : (v : ℕ → Bool) (ps : List Part) → lowest ps ≤ℤ part_sum v ps
low-all v [] = omega (arith, ints)
low-all v (p ∷ ps) =
    let one = low-part p.weight (literal_value v p.lit) (int_lt p.weight (pos 0)) refl in
    let more = low-all v ps in
    omega (arith, ints, one, more)

high-all : (v : ℕ → Bool) (ps : List Part) → part_sum v ps ≤ℤ highest ps
high-all v [] = omega (arith, ints)
high-all v (p ∷ ps) =
    let one = high-part p.weight (literal_value v p.lit) (int_lt p.weight (pos 0)) refl in
    let more = high-all v ps in
    omega (arith, ints, one, more)

-- ---- at least, as a test

ge-by : (z d : ℤ) (x t e : Bool) → int_lt z d ≡ x → int_lt d z ≡ t → int_eq z d ≡ e → (t || e) ≡ not x
ge-by z d true true e h f g = absurd (wrong h f)
  where
    wrong : int_lt z d ≡ true → int_lt d z ≡ true → ⊥
    wrong h f = grind (arith, ints, nat_tests)
ge-by z d true false true h f g = absurd (wrong h g)
  where
    wrong : int_lt z d ≡ true → int_eq z d ≡ true → ⊥
    wrong h g = grind (arith, ints, nat_tests)
ge-by z d true false false h f g = refl
ge-by z d false true e h f g = refl
ge-by z d false false true h f g = refl
ge-by z d false false false h f g = absurd (wrong h f g)
  where
    wrong : int_lt z d ≡ false → int_lt d z ≡ false → int_eq z d ≡ false → ⊥
    wrong h f g = grind (arith, ints, nat_tests)

pub ge-is : (z d : ℤ) → compared cmp.Ge (number z) (number d) ≡ not (int_lt z d)
ge-is z d = ge-by z d (int_lt z d) (int_lt d z) (int_eq z d) refl refl refl

base-on : (base z d : ℤ) (x y : Bool) → int_lt z (d -ℤ base) ≡ x → int_lt (base +ℤ z) d ≡ y → x ≡ y
base-on base z d true true e f = refl
base-on base z d true false e f = absurd (wrong e f)
  where
    wrong : int_lt z (d -ℤ base) ≡ true → int_lt (base +ℤ z) d ≡ false → ⊥
    wrong e f = grind (arith, ints, nat_tests)
base-on base z d false true e f = absurd (wrong e f)
  where
    wrong : int_lt z (d -ℤ base) ≡ false → int_lt (base +ℤ z) d ≡ true → ⊥
    wrong e f = grind (arith, ints, nat_tests)
base-on base z d false false e f = refl

ge-shift : (base z d : ℤ)
    → compared cmp.Ge (number z) (number (d -ℤ base)) ≡ compared cmp.Ge (number (base +ℤ z)) (number d)
ge-shift base z d = ge-is z (d -ℤ base)
    ∙ ap not (base-on base z d (int_lt z (d -ℤ base)) (int_lt (base +ℤ z) d) refl refl)
    ∙ sym (ge-is (base +ℤ z) d)

ge-true : (z d : ℤ) → d ≤ℤ z → compared cmp.Ge (number z) (number d) ≡ true
ge-true z d le = ge-is z d ∙ by (int_lt z d) refl
  where
    by : (t : Bool) → int_lt z d ≡ t → not t ≡ true
    by false e = refl
    by true e = absurd (wrong e le)
      where
        wrong : int_lt z d ≡ true → d ≤ℤ z → ⊥
        wrong e le = grind (arith, ints, nat_tests)

ge-false : (z d h : ℤ) → z ≤ℤ h → int_lt h d ≡ true → compared cmp.Ge (number z) (number d) ≡ false
ge-false z d h le lt = ge-is z d ∙ by (int_lt z d) refl
  where
    by : (t : Bool) → int_lt z d ≡ t → not t ≡ false
    by true e = refl
    by false e = absurd (wrong e le lt)
      where
        wrong : int_lt z d ≡ false → z ≤ℤ h → int_lt h d ≡ true → ⊥
        wrong e le lt = grind (arith, ints, nat_tests)

le-of : (d z : ℤ) → int_le d z ≡ true → d ≤ℤ z
le-of d z e = grind (arith, ints, nat_tests)

-- ---- the constraint

-- a problem with one constraint more is one
sum-grown : (p : ProblemState) (parts : List Part) (least : ExtInt) → IsProblem p → ArePartsOf p.vars parts
    → IsProblem (with_sum p kind.Sum parts least)
sum-grown p parts least fine within =
    let n = p.vars + 1 in
    let le : p.vars ≤ n = omega arith in
    let s : AggCon = record { out = next_lit p; kind = kind.Sum; parts = parts; least = least } in record {
      atoms = let h = fine.atoms in omega (arith, h);
      gates = λ k d lt. let h = fine.gates k d lt in
          (lit-more p.vars n le (get_or p.gates k d).out h.0, lits-more p.vars n le (get_or p.gates k d).parts h.1);
      clauses = λ k d lt. lits-more p.vars n le (get_or p.clauses k d) (fine.clauses k d lt);
      sums = All-append (IsSumOf n) p.sums (s ∷ [])
          (λ k d lt. let h = fine.sums k d lt in (
            lit-more p.vars n le (get_or p.sums k d).out h.0,
            λ i c li. lit-more p.vars n le (get_or (get_or p.sums k d).parts i c).lit (h.1 i c li),
          ))
          (All-cons (IsSumOf n) s []
          ((omega arith, omega arith), λ i c li. lit-more p.vars n le (get_or parts i c).lit (within i c li))
          (All-nil (IsSumOf n)));
      terms = λ k d lt. let h = fine.terms k d lt in
          λ i c li. lit-more p.vars n le (get_or (get_or p.terms k d).parts i c).lit (h i c li);
      bounds = λ k d lt. let h = fine.bounds k d lt in (lit-more p.vars n le (get_or p.bounds k d).out h.0, h.1);
      retired = λ k d lt. lit-more p.vars n le (get_or p.retired k d) (fine.retired k d lt);
    }

module _ (st : Linear) (d : ℤ) (h : IsLinear kind.Sum st) where
  -- what the sum comes to
  abbrev sum_of : (ℕ → Bool) → ℤ
  sum_of v = st.base +ℤ part_sum v st.parts

  value-is : (v : ℕ → Bool) → linear_value kind.Sum v st ≡ number (sum_of v)
  value-is v = ap (shifted st.base) (parts-sum v st.parts)

  abbrev Goal : GroundResult → Type 0
  Goal g = Means st.problem g.problem g.answer (λ v. compared cmp.Ge (linear_value kind.Sum v st) (number d))

  all-true : d ≤ℤ (st.base +ℤ lowest st.parts) → Goal (record { answer = Constant true; problem = st.problem })
  all-true le = record {
    fine = h.fine;
    more = more-refl st.problem;
    within = tt;
    right = λ v s. let low = low-all v st.parts in
        sym (ap (λ x. compared cmp.Ge x (number d)) (value-is v) ∙ ge-true (sum_of v) d (omega (arith, ints, le, low)));
  }

  all-false : int_lt (st.base +ℤ highest st.parts) d ≡ true
      → Goal (record { answer = Constant false; problem = st.problem })
  all-false lt = record {
    fine = h.fine;
    more = more-refl st.problem;
    within = tt;
    right = λ v s. let high = high-all v st.parts in
        sym (ap (λ x. compared cmp.Ge x (number d)) (value-is v)
        ∙ ge-false (sum_of v) d (st.base +ℤ highest st.parts) (omega (arith, ints, high)) lt);
  }

  threshold : Goal (record {
    answer = Literal (next_lit st.problem);
    problem = with_sum st.problem kind.Sum st.parts (Num (d -ℤ st.base));
  })
  threshold =
      let least : ExtInt = Num (d -ℤ st.base) in
      let add = sum-added st.problem kind.Sum st.parts least h.fine h.within in
      means-then st.problem st.problem (with_sum st.problem kind.Sum st.parts least) (Literal (next_lit st.problem))
      (λ v. compared cmp.Ge (parts_value v kind.Sum st.parts) (number (d -ℤ st.base)))
      (λ v. compared cmp.Ge (linear_value kind.Sum v st) (number d)) (more-refl st.problem)
      (record {
        fine = sum-grown st.problem st.parts least h.fine h.within;
        more = add.more;
        within = add.within;
        right = add.means;
      })
      (λ v s. ap (λ x. compared cmp.Ge x (number (d -ℤ st.base))) (parts-sum v st.parts)
      ∙ ge-shift st.base (part_sum v st.parts) d
      ∙ ap (λ x. compared cmp.Ge x (number d)) (sym (value-is v)))

  -- the answer is whether the sum is at least the number
  pub sum-reaches-right : Goal (sum_reaches st d)
  sum-reaches-right = by (int_le d (st.base +ℤ lowest st.parts)) refl (int_lt (st.base +ℤ highest st.parts) d) refl
    where
      by : (s : Bool) → int_le d (st.base +ℤ lowest st.parts) ≡ s → (t : Bool)
          → int_lt (st.base +ℤ highest st.parts) d ≡ t
          → Goal (if s then record { answer = Constant true; problem = st.problem }
          else if t then record { answer = Constant false; problem = st.problem }
          else record {
            answer = Literal (next_lit st.problem);
            problem = with_sum st.problem kind.Sum st.parts (Num (d -ℤ st.base));
          })
      by true e t f = all-true (le-of d (st.base +ℤ lowest st.parts) e)
      by false e true f = all-false f
      by false e false f = threshold
