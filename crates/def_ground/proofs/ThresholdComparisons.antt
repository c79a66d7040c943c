-- How an aggregate compares with a number, by whether it reaches that number and the next one.
use Rattle.std.proofs.Common.{◌≡◌, ℕ, ℤ, pos, ◌+ℤ◌, int_lt, int_eq, Bool, true, false, not, ◌||◌, ◌&&◌, []}
use Rattle.std.proofs.Common.{◌∷◌, fold, refl, sym, ap, ◌∙◌, subst, arith}
use Rattle.std.proofs.lemmas.Bool.Decides.{nat_tests}
use Rattle.std.proofs.lemmas.Int.{ints}
use Rattle.std.proofs.lemmas.List.Elements.{All-cons, All-nil}
use Rattle.kb_logic.specs.declared.syntax.AggKind.{AggKind}
use Rattle.kb_logic.specs.declared.syntax.AggKind.TheVariants as kind
use Rattle.kb_logic.specs.declared.syntax.Cmp.{Cmp}
use Rattle.kb_logic.specs.declared.syntax.Cmp.TheVariants as cmp
use Rattle.kb_logic.specs.Denotations.{Denotation, number, named, minus_infinity, plus_infinity, undefined, compared}
use Rattle.kb_logic.specs.Denotations.{lesser, greater}
use Rattle.lit_core.specs.Literals.{literal_value}
use Rattle.ground_core.specs.Problems.{ProblemState, IsProblem, IsLitOf}
use Rattle.ground_core.specs.Meaning.{Satisfies, joined, shifted, weights_of}
use Rattle.ground_core.proofs.Mores.{more-trans}
use Rattle.def_ground.specs.declared.answers.Answer.{Answer}
use Rattle.def_ground.specs.declared.answers.Answer.TheVariants.{Constant, Literal}
use Rattle.def_ground.specs.Answers.{answer_value, AnswerWithin, opposite_of, gate_of}
use Rattle.def_ground.specs.Linear.{Linear, with_problem, reaches_number, both_of, is_number, compared_at}
use Rattle.def_ground.specs.LinearValues.{linear_value, IsLinear, Comes}
use Rattle.def_ground.specs.Meanings.{Means}
use Rattle.def_ground.proofs.FormSteps.{gate-right, means-then, means-not}
use Rattle.def_ground.proofs.Growing.{more-refl}
use Rattle.def_ground.proofs.LinearParts.{part_sum, parts-sum}
use Rattle.def_ground.proofs.LinearSteps.{bare, linear-later, answer-later}
use Rattle.def_ground.proofs.ThresholdSums.{ge-is, sum-reaches-right}
use Rattle.def_ground.proofs.ThresholdExtremes.{IsNumeric, min-reaches-right, max-reaches-right, min-value-numeric}
use Rattle.def_ground.proofs.ThresholdExtremes.{max-value-numeric}

-- ---- the four kinds

pub reaches-right : (k : AggKind) (st : Linear) (d : ℤ) → IsLinear k st
    → Means st.problem (reaches_number k st d).problem (reaches_number k st d).answer
    (λ v. compared cmp.Ge (linear_value k v st) (number d))
reaches-right kind.Count st d h = sum-reaches-right st d (record { fine = h.fine; within = h.within; plain = tt })
reaches-right kind.Sum st d h = sum-reaches-right st d h
reaches-right kind.Min st d h = min-reaches-right st d h
reaches-right kind.Max st d h = max-reaches-right st d h

numeric-is : (x y : Denotation) → x ≡ y → IsNumeric y → IsNumeric x
numeric-is x (number z) e is = subst IsNumeric (sym e) tt
numeric-is x plus_infinity e is = subst IsNumeric (sym e) tt
numeric-is x minus_infinity e is = subst IsNumeric (sym e) tt
numeric-is x (named n) e is = absurd is
numeric-is x undefined e is = absurd is

-- an aggregate's value is a number, or infinite
pub value-numeric : (k : AggKind) (st : Linear) → IsLinear k st → (v : ℕ → Bool) → IsNumeric (linear_value k v st)
value-numeric kind.Count st h v =
    numeric-is (linear_value kind.Count v st) (number (st.base +ℤ part_sum v st.parts))
    (ap (shifted st.base) (parts-sum v st.parts)) tt
value-numeric kind.Sum st h v =
    numeric-is (linear_value kind.Sum v st) (number (st.base +ℤ part_sum v st.parts))
    (ap (shifted st.base) (parts-sum v st.parts)) tt
value-numeric kind.Min st h v =
    let x = fold lesser plus_infinity (weights_of v st.parts) in
    numeric-is (linear_value kind.Min v st) x (bare st.base x h.plain) (min-value-numeric v st.parts)
value-numeric kind.Max st h v =
    let x = fold greater minus_infinity (weights_of v st.parts) in
    numeric-is (linear_value kind.Max v st) x (bare st.base x h.plain) (max-value-numeric v st.parts)

-- ---- six comparisons by two tests

-- by whether the value reaches the number, and the next one
abbrev by_reaching : Cmp → Bool → Bool → Bool
by_reaching cmp.Eq a b = a && not b
by_reaching cmp.Ne a b = not (a && not b)
by_reaching cmp.Lt a b = not a
by_reaching cmp.Gt a b = b
by_reaching cmp.Le a b = not b
by_reaching cmp.Ge a b = a

gt-test : (z d : ℤ) (x y : Bool) → int_lt d z ≡ x → int_lt z (d +ℤ pos 1) ≡ y → x ≡ not y
gt-test z d true true e f = absurd (wrong e f)
  where
    wrong : int_lt d z ≡ true → int_lt z (d +ℤ pos 1) ≡ true → ⊥
    wrong e f = grind (arith, ints, nat_tests)
gt-test z d true false e f = refl
gt-test z d false true e f = refl
gt-test z d false false e f = absurd (wrong e f)
  where
    wrong : int_lt d z ≡ false → int_lt z (d +ℤ pos 1) ≡ false → ⊥
    wrong e f = grind (arith, ints, nat_tests)

eq-test : (z d : ℤ) (x y w : Bool) → int_lt z d ≡ x → int_lt z (d +ℤ pos 1) ≡ y → int_eq z d ≡ w
    → w ≡ (not x && not (not y))
eq-test z d true y false e f g = refl
eq-test z d true y true e f g = absurd (wrong e g)
  where
    wrong : int_lt z d ≡ true → int_eq z d ≡ true → ⊥
    wrong e g = grind (arith, ints, nat_tests)
eq-test z d false true true e f g = refl
eq-test z d false true false e f g = absurd (wrong e f g)
  where
    wrong : int_lt z d ≡ false → int_lt z (d +ℤ pos 1) ≡ true → int_eq z d ≡ false → ⊥
    wrong e f g = grind (arith, ints, nat_tests)
eq-test z d false false false e f g = refl
eq-test z d false false true e f g = absurd (wrong f g)
  where
    wrong : int_lt z (d +ℤ pos 1) ≡ false → int_eq z d ≡ true → ⊥
    wrong f g = grind (arith, ints, nat_tests)

le-test : (z d : ℤ) (x y w : Bool) → int_lt z d ≡ x → int_lt z (d +ℤ pos 1) ≡ y → int_eq z d ≡ w
    → (x || w) ≡ not (not y)
le-test z d true true w e f g = refl
le-test z d true false w e f g = absurd (wrong e f)
  where
    wrong : int_lt z d ≡ true → int_lt z (d +ℤ pos 1) ≡ false → ⊥
    wrong e f = grind (arith, ints, nat_tests)
le-test z d false true true e f g = refl
le-test z d false true false e f g = absurd (wrong e f g)
  where
    wrong : int_lt z d ≡ false → int_lt z (d +ℤ pos 1) ≡ true → int_eq z d ≡ false → ⊥
    wrong e f g = grind (arith, ints, nat_tests)
le-test z d false false false e f g = refl
le-test z d false false true e f g = absurd (wrong f g)
  where
    wrong : int_lt z (d +ℤ pos 1) ≡ false → int_eq z d ≡ true → ⊥
    wrong f g = grind (arith, ints, nat_tests)

twice-not : (x : Bool) → x ≡ not (not x)
twice-not true = refl
twice-not false = refl

abbrev reaches : ℤ → Denotation → Bool
reaches d x = compared cmp.Ge x (number d)

by-numbers : (c : Cmp) (z d : ℤ)
    → compared c (number z) (number d) ≡ by_reaching c (not (int_lt z d)) (not (int_lt z (d +ℤ pos 1)))
by-numbers cmp.Eq z d = eq-test z d (int_lt z d) (int_lt z (d +ℤ pos 1)) (int_eq z d) refl refl refl
by-numbers cmp.Ne z d = ap not (eq-test z d (int_lt z d) (int_lt z (d +ℤ pos 1)) (int_eq z d) refl refl refl)
by-numbers cmp.Lt z d = twice-not (int_lt z d)
by-numbers cmp.Gt z d = gt-test z d (int_lt d z) (int_lt z (d +ℤ pos 1)) refl refl
by-numbers cmp.Le z d = le-test z d (int_lt z d) (int_lt z (d +ℤ pos 1)) (int_eq z d) refl refl refl
by-numbers cmp.Ge z d = ge-is z d

above-all : (c : Cmp) (d : ℤ) → compared c plus_infinity (number d) ≡ by_reaching c true true
above-all cmp.Eq d = refl
above-all cmp.Ne d = refl
above-all cmp.Lt d = refl
above-all cmp.Gt d = refl
above-all cmp.Le d = refl
above-all cmp.Ge d = refl

below-all : (c : Cmp) (d : ℤ) → compared c minus_infinity (number d) ≡ by_reaching c false false
below-all cmp.Eq d = refl
below-all cmp.Ne d = refl
below-all cmp.Lt d = refl
below-all cmp.Gt d = refl
below-all cmp.Le d = refl
below-all cmp.Ge d = refl

by-reaching : (c : Cmp) (x : Denotation) (d : ℤ) → IsNumeric x
    → compared c x (number d) ≡ by_reaching c (reaches d x) (reaches (d +ℤ pos 1) x)
by-reaching c (number z) d is =
    by-numbers c z d ∙ ap (λ a. by_reaching c a (not (int_lt z (d +ℤ pos 1)))) (sym (ge-is z d))
    ∙ ap (λ b. by_reaching c (reaches d (number z)) b) (sym (ge-is z (d +ℤ pos 1)))
by-reaching c plus_infinity d is = above-all c d
by-reaching c minus_infinity d is = below-all c d
by-reaching c (named n) d is = absurd is
by-reaching c undefined d is = absurd is

-- ---- two answers together

right-true : (x : Bool) → (x && true) ≡ x
right-true true = refl
right-true false = refl

right-false : (x : Bool) → (x && false) ≡ false
right-false true = refl
right-false false = refl

module _ (p : ProblemState) (fine : IsProblem p) (F G : (ℕ → Bool) → Bool) where
  alone : (a : Answer) → AnswerWithin p.vars a → ((v : ℕ → Bool) → Satisfies p v → answer_value v a ≡ (F v && G v))
      → Means p p a (λ v. F v && G v)
  alone a within right = record { fine = fine; more = more-refl p; within = within; right = right }

  pub both-right : (a b : Answer) → AnswerWithin p.vars a → AnswerWithin p.vars b
      → ((v : ℕ → Bool) → Satisfies p v → answer_value v a ≡ F v)
      → ((v : ℕ → Bool) → Satisfies p v → answer_value v b ≡ G v)
      → Means p (both_of a b p).problem (both_of a b p).answer (λ v. F v && G v)
  both-right (Constant false) b wa wb f g = alone (Constant false) tt (λ v s. ap (λ x. x && G v) (f v s))
  both-right (Constant true) (Constant false) wa wb f g =
      alone (Constant false) tt (λ v s. ap (λ x. true && x) (g v s) ∙ ap (λ x. x && G v) (f v s))
  both-right (Constant true) (Constant true) wa wb f g =
      alone (Constant true) tt (λ v s. ap (λ x. true && x) (g v s) ∙ ap (λ x. x && G v) (f v s))
  both-right (Constant true) (Literal m) wa wb f g =
      alone (Literal m) wb (λ v s. ap (λ x. true && x) (g v s) ∙ ap (λ x. x && G v) (f v s))
  both-right (Literal l) (Constant false) wa wb f g =
      alone (Constant false) tt
      (λ v s. sym (right-false (literal_value v l)) ∙ ap (λ x. literal_value v l && x) (g v s)
      ∙ ap (λ x. x && G v) (f v s))
  both-right (Literal l) (Constant true) wa wb f g =
      alone (Literal l) wa
      (λ v s. sym (right-true (literal_value v l)) ∙ ap (λ x. literal_value v l && x) (g v s)
      ∙ ap (λ x. x && G v) (f v s))
  both-right (Literal l) (Literal m) wa wb f g =
      let ls = l ∷ m ∷ [] in
      let r = gate_of true ls p in
      means-then p p r.problem r.answer (λ v. joined true v ls) (λ v. F v && G v) (more-refl p)
      (gate-right p true ls fine
      (All-cons (IsLitOf p.vars) l (m ∷ []) wa (All-cons (IsLitOf p.vars) m [] wb (All-nil (IsLitOf p.vars)))))
      (λ v s. ap (λ x. literal_value v l && x) (right-true (literal_value v m) ∙ g v s) ∙ ap (λ x. x && G v) (f v s))

-- ---- comparisons with a number

module _ (k : AggKind) (st : Linear) (d : ℤ) (h : IsLinear k st) where
  abbrev at : (ℕ → Bool) → ℤ → Bool
  at v y = reaches y (linear_value k v st)

  number-right : Means st.problem (is_number k st d).problem (is_number k st d).answer
      (λ v. at v d && not (at v (d +ℤ pos 1)))
  number-right =
      let low = reaches_number k st d in
      let one = reaches-right k st d h in
      let mid = with_problem low.problem st in
      let high = reaches_number k mid (d +ℤ pos 1) in
      let two = reaches-right k mid (d +ℤ pos 1) (linear-later k st low.problem h one.fine one.more) in
      let off = means-not low.problem high (λ v. at v (d +ℤ pos 1)) two in
      let both = both-right high.problem two.fine (λ v. at v d) (λ v. not (at v (d +ℤ pos 1))) low.answer
      (opposite_of high.answer)
      (answer-later low.problem.vars high.problem.vars two.more.grows low.answer one.within) off.within
      (λ v s. one.right v (two.more.restricts v s)) off.right in
      let last = is_number k st d in
      means-then st.problem high.problem last.problem last.answer (λ v. at v d && not (at v (d +ℤ pos 1)))
      (λ v. at v d && not (at v (d +ℤ pos 1)))
      (more-trans st.problem low.problem high.problem one.more two.more) both (λ v s. refl)

  by-tests : (c : Cmp) → Means st.problem (compared_at k c st d).problem (compared_at k c st d).answer
      (λ v. by_reaching c (at v d) (at v (d +ℤ pos 1)))
  by-tests cmp.Eq = number-right
  by-tests cmp.Ne = means-not st.problem (is_number k st d) (λ v. at v d && not (at v (d +ℤ pos 1))) number-right
  by-tests cmp.Lt = means-not st.problem (reaches_number k st d) (λ v. at v d) (reaches-right k st d h)
  by-tests cmp.Gt = reaches-right k st (d +ℤ pos 1) h
  by-tests cmp.Le =
      means-not st.problem (reaches_number k st (d +ℤ pos 1)) (λ v. at v (d +ℤ pos 1))
      (reaches-right k st (d +ℤ pos 1) h)
  by-tests cmp.Ge = reaches-right k st d h

  -- the answer is how the aggregate compares with the number
  pub compared-right : (c : Cmp) → Means st.problem (compared_at k c st d).problem (compared_at k c st d).answer
      (λ v. compared c (linear_value k v st) (number d))
  compared-right c =
      let g = compared_at k c st d in
      means-then st.problem st.problem g.problem g.answer (λ v. by_reaching c (at v d) (at v (d +ℤ pos 1)))
      (λ v. compared c (linear_value k v st) (number d)) (more-refl st.problem) (by-tests c)
      (λ v s. sym (by-reaching c (linear_value k v st) d (value-numeric k st h v)))

-- what the parts come to compares so
pub comes-compared : (k : AggKind) (c : Cmp) (p : ProblemState) (st : Linear) (V : (ℕ → Bool) → Denotation) (d : ℤ)
    → Comes k p st V
    → Means p (compared_at k c st d).problem (compared_at k c st d).answer (λ v. compared c (V v) (number d))
comes-compared k c p st V d h =
    let g = compared_at k c st d in
    means-then p st.problem g.problem g.answer (λ v. compared c (linear_value k v st) (number d))
    (λ v. compared c (V v) (number d)) h.more (compared-right k st d h.linear c)
    (λ v s. ap (λ x. compared c x (number d)) (h.right v s))
