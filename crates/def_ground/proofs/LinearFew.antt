-- How many variables aggregates take.
use Rattle.std.proofs.Common.{◌≡◌, ℕ, ◌+◌, ◌*◌, ◌≤◌, ℤ, pos, neg_ℤ, ◌+ℤ◌, ◌-ℤ◌, ◌*ℤ◌, int_le, int_lt, int_eq, Bool}
use Rattle.std.proofs.Common.{true, false}
use Rattle.std.proofs.Common.{not, cond, if◌then◌else◌, map, length, List, [], ◌∷◌, fold, Option, Some, None, refl, sym}
use Rattle.std.proofs.Common.{ap}
use Rattle.std.proofs.Common.{subst, ◌∙◌, ◌⊎◌, inl, inr, arith}
use Rattle.std.proofs.lemmas.Bool.Decides.{nat_tests}
use Rattle.std.proofs.lemmas.Int.{ints}
use Rattle.kb_logic.specs.declared.elements.Elem.{Elem}
use Rattle.kb_logic.specs.declared.elements.ExtInt.TheVariants.{Num}
use Rattle.kb_logic.specs.declared.syntax.AggKind.{AggKind}
use Rattle.kb_logic.specs.declared.syntax.AggKind.TheVariants as kind
use Rattle.kb_logic.specs.declared.syntax.Cmp.{Cmp}
use Rattle.kb_logic.specs.declared.syntax.Cmp.TheVariants as cmp
use Rattle.kb_logic.specs.Denotations.{Denotation, number, named, minus_infinity, plus_infinity, undefined}
use Rattle.lit_core.specs.declared.literals.Lit.{Lit}
use Rattle.lit_core.specs.Literals.{negated}
use Rattle.ground_core.specs.Problems.{ProblemState}
use Rattle.ground_core.specs.Growth.{next_lit, with_sum}
use Rattle.def_ground.specs.declared.answers.Answer.{Answer}
use Rattle.def_ground.specs.declared.answers.Answer.TheVariants.{Constant, Literal}
use Rattle.def_ground.specs.Answers.{GroundResult, opposite_of, gate_of}
use Rattle.def_ground.specs.Cases.{Case, answer_or_cases, answer_without, cases_of}
use Rattle.def_ground.specs.Linear.{Linear, lowest, highest, sum_reaches, lits_below, lits_from, reaches_number}
use Rattle.def_ground.specs.Linear.{both_of}
use Rattle.def_ground.specs.Linear.{is_number, compared_at, with_base, with_problem, weighed, weighed_under, summed_row}
use Rattle.def_ground.specs.Linear.{listed_under, listed_row, row_step, rows_of_kind, instance_step}
use Rattle.def_ground.specs.SumSides.{outer, with_number, with_value, number_or_zero, outermost, more_than, with_more}
use Rattle.def_ground.specs.SumSides.{row_spread, spread, sided, sided_at, sides_meet, sides_by, compared_beside}
use Rattle.def_ground.specs.Thresholds.{CasesSoFar, compared_with_row, threshold_step, compared_with_rows}
use Rattle.def_ground.proofs.LinearGuards.{guarded-few}

gate-few : (all : Bool) (ls : List Lit) (p : ProblemState) → (gate_of all ls p).problem.vars ≤ p.vars + 1
gate-few all [] p = omega arith
gate-few all (l ∷ []) p = omega arith
gate-few all (l ∷ m ∷ ls) p = omega arith

-- ---- thresholds

-- one of three results
abbrev one_of_three : Bool → Bool → ProblemState → ProblemState → GroundResult
one_of_three s t p q =
    if s then record { answer = Constant true; problem = p }
    else if t then record { answer = Constant false; problem = p }
    else record { answer = Literal (next_lit p); problem = q }

three-few : (s t : Bool) (p q : ProblemState) → q.vars ≤ p.vars + 1 → (one_of_three s t p q).problem.vars ≤ p.vars + 1
three-few true t p q h = omega arith
three-few false true p q h = omega arith
three-few false false p q h = h

sum-few : (st : Linear) (d : ℤ) → (sum_reaches st d).problem.vars ≤ st.problem.vars + 1
sum-few st d = three-few (int_le d (st.base +ℤ lowest st.parts)) (int_lt (st.base +ℤ highest st.parts) d) st.problem
    (with_sum st.problem kind.Sum st.parts (Num (d -ℤ st.base))) (omega arith)

pub reaches-few : (k : AggKind) (st : Linear) (d : ℤ) → (reaches_number k st d).problem.vars ≤ st.problem.vars + 1
reaches-few kind.Count st d = sum-few st d
reaches-few kind.Sum st d = sum-few st d
reaches-few kind.Min st d = gate-few true (map negated (lits_below d st.parts)) st.problem
reaches-few kind.Max st d = gate-few false (lits_from d st.parts) st.problem

both-few : (a b : Answer) (p : ProblemState) → (both_of a b p).problem.vars ≤ p.vars + 1
both-few (Constant false) b p = omega arith
both-few (Constant true) (Constant false) p = omega arith
both-few (Constant true) (Constant true) p = gate-few true [] p
both-few (Constant true) (Literal m) p = gate-few true (m ∷ []) p
both-few (Literal l) (Constant false) p = omega arith
both-few (Literal l) (Constant true) p = gate-few true (l ∷ []) p
both-few (Literal l) (Literal m) p = gate-few true (l ∷ m ∷ []) p

number-few : (k : AggKind) (st : Linear) (d : ℤ) → (is_number k st d).problem.vars ≤ st.problem.vars + 3
number-few k st d =
    let low = reaches_number k st d in
    let high = reaches_number k (with_problem low.problem st) (d +ℤ pos 1) in
    let one : low.problem.vars ≤ st.problem.vars + 1 = reaches-few k st d in
    let two : high.problem.vars ≤ low.problem.vars + 1 = reaches-few k (with_problem low.problem st) (d +ℤ pos 1) in
    let three : (is_number k st d).problem.vars ≤ high.problem.vars + 1 =
    both-few low.answer (opposite_of high.answer) high.problem in
    omega (arith, one, two, three)

-- a comparison with a number takes at most three
pub compared-few : (k : AggKind) (c : Cmp) (st : Linear) (d : ℤ)
    → (compared_at k c st d).problem.vars ≤ st.problem.vars + 3
compared-few k cmp.Eq st d = number-few k st d
compared-few k cmp.Ne st d = number-few k st d
compared-few k cmp.Lt st d = let h = reaches-few k st d in omega (arith, h)
compared-few k cmp.Gt st d = let h = reaches-few k st (d +ℤ pos 1) in omega (arith, h)
compared-few k cmp.Le st d = let h = reaches-few k st (d +ℤ pos 1) in omega (arith, h)
compared-few k cmp.Ge st d = let h = reaches-few k st d in omega (arith, h)

row-few : (k : AggKind) (c : Cmp) (st : Linear) (d : Denotation)
    → (compared_with_row k c st d).problem.vars ≤ st.problem.vars + 3
row-few k c st (number d) = compared-few k c st d
row-few k c st (named n) = omega arith
row-few k c st minus_infinity = omega arith
row-few k c st plus_infinity = omega arith
row-few k c st undefined = omega arith

rows-few : (k : AggKind) (c : Cmp) (st : Linear) (rs : List (List Lit × Denotation)) (cs : CasesSoFar)
    → (fold (threshold_step k c st) cs rs).problem.vars ≤ cs.problem.vars + 3 * length rs
rows-few k c st [] cs = omega arith
rows-few k c st (r ∷ rs) cs =
    let one = row-few k c (with_problem cs.problem st) r.1 in
    let more = rows-few k c st rs (threshold_step k c st cs r) in
    omega (arith, one, more)

answer-few : (o : Option Answer) (cs : List Case) (p : ProblemState)
    → (answer_or_cases o cs p).problem.vars ≤ p.vars + 1
answer-few (Some a) cs p = omega arith
answer-few None cs p = omega arith

-- a comparison with the rows of a term takes at most four for each row
pub compared-rows-few : (k : AggKind) (c : Cmp) (st : Linear) (rs : List (List Lit × Denotation))
    → (compared_with_rows k c st rs).problem.vars ≤ st.problem.vars + 4 * length rs
compared-rows-few k c st [] = omega arith
compared-rows-few k c st (r ∷ rs) =
    let start : CasesSoFar = record { cases = []; problem = st.problem } in
    let cs = fold (threshold_step k c st) start (r ∷ rs) in
    let one : cs.problem.vars ≤ st.problem.vars + 3 * length (r ∷ rs) = rows-few k c st (r ∷ rs) start in
    let two : (cases_of cs.cases cs.problem).problem.vars ≤ cs.problem.vars + 1 =
    answer-few (answer_without cs.cases) cs.cases cs.problem in
    omega (arith, one, two)

-- ---- instances

weighed-few : (w : ℤ) (a : Answer) (q : ProblemState) (st : Linear)
    → (weighed w (record { answer = a; problem = q }) st).problem.vars ≤ q.vars
weighed-few w (Constant c) q st = omega arith
weighed-few w (Literal l) q st = omega arith

gated-few : (w : ℤ) (ls : List Lit) (st : Linear)
    → (weighed w (gate_of true ls st.problem) st).problem.vars ≤ st.problem.vars + 1
gated-few w ls st =
    let g = gate_of true ls st.problem in
    let one = weighed-few w g.answer g.problem st in
    let two = gate-few true ls st.problem in
    omega (arith, one, two)

under-few : (w : ℤ) (a : Answer) (guards : List Lit) (st : Linear)
    → (weighed_under w a guards st).problem.vars ≤ st.problem.vars + 1
under-few w (Constant true) guards st = gated-few w guards st
under-few w (Constant false) guards st = omega arith
under-few w (Literal l) guards st = gated-few w (l ∷ guards) st

listed-few : (w : ℤ) (a : Answer) (guards : List Lit) (st : Linear)
    → (listed_under w a guards st).problem.vars ≤ st.problem.vars + 1
listed-few w (Constant true) guards st = guarded-few st.problem guards
listed-few w (Constant false) guards st = omega arith
listed-few w (Literal l) guards st = guarded-few st.problem (l ∷ guards)

summed-few : (z : ℤ) (a : Answer) (st : Linear) (g : List Lit) (d : Denotation)
    → (summed_row z a st (g, d)).problem.vars ≤ st.problem.vars + 1
summed-few z a st g (number w) = under-few (z *ℤ w) a g st
summed-few z a st g (named n) = omega arith
summed-few z a st g minus_infinity = omega arith
summed-few z a st g plus_infinity = omega arith
summed-few z a st g undefined = omega arith

listed-row-few : (a : Answer) (st : Linear) (g : List Lit) (d : Denotation)
    → (listed_row a st (g, d)).problem.vars ≤ st.problem.vars + 1
listed-row-few a st g (number w) = listed-few w a g st
listed-row-few a st g (named n) = omega arith
listed-row-few a st g minus_infinity = omega arith
listed-row-few a st g plus_infinity = omega arith
listed-row-few a st g undefined = omega arith

step-few : (k : AggKind) (z : ℤ) (a : Answer) (st : Linear) (r : List Lit × Denotation)
    → (row_step k z a st r).problem.vars ≤ st.problem.vars + 1
step-few kind.Count z a st r = summed-few z a st r.0 r.1
step-few kind.Sum z a st r = summed-few z a st r.0 r.1
step-few kind.Min z a st r = listed-row-few a st r.0 r.1
step-few kind.Max z a st r = listed-row-few a st r.0 r.1

steps-few : (k : AggKind) (z : ℤ) (a : Answer) (rs : List (List Lit × Denotation)) (st : Linear)
    → (fold (row_step k z a) st rs).problem.vars ≤ st.problem.vars + length rs
steps-few k z a [] st = omega arith
steps-few k z a (r ∷ rs) st =
    let one = step-few k z a st r in
    let more = steps-few k z a rs (row_step k z a st r) in
    omega (arith, one, more)

-- ---- both sides of a comparison

-- the rows that are more than m
abbrev ones : Option ℤ → ℕ
ones None = 0
ones (Some w) = 1

abbrev others : ℤ → List (List Lit × Denotation) → ℕ
others m [] = 0
others m (r ∷ rs) = ones (more_than m r.1) + others m rs

one-few : (o : Option ℤ) → ones o ≤ 1
one-few None = omega arith
one-few (Some w) = omega arith

others-few : (m : ℤ) (rs : List (List Lit × Denotation)) → others m rs ≤ length rs
others-few m [] = omega arith
others-few m (r ∷ rs) =
    let one = one-few (more_than m r.1) in
    let more = others-few m rs in
    omega (arith, one, more)

-- m itself is not more
itself : (m : ℤ) → ones (more_than m (number m)) ≡ 0
itself m = by (int_eq m m) refl
  where
    by : (t : Bool) → int_eq m m ≡ t → ones (if t then None else Some (m -ℤ m)) ≡ 0
    by true e = refl
    by false e = absurd (wrong e)
      where
        wrong : int_eq m m ≡ false → ⊥
        wrong e = grind (arith, ints, nat_tests)

module _ (high : Bool) where
  abbrev most : Option ℤ → List (List Lit × Denotation) → Option ℤ
  most o rs = fold (λ y r. with_value high y r.1) o rs

  -- the outermost number is that before the rows, or that of a row
  abbrev Attained : Option ℤ → List (List Lit × Denotation) → Type 0
  Attained o rs = (most o rs ≡ o) ⊎ (others (number_or_zero (most o rs)) rs + 1 ≤ length rs)

  outer-is : (y z : ℤ) → (outer high y z ≡ y) ⊎ (outer high y z ≡ z)
  outer-is y z = by high
    where
      by : (h : Bool) → (outer h y z ≡ y) ⊎ (outer h y z ≡ z)
      by true = by_test (int_lt z y)
        where
          by_test : (t : Bool) → (cond t y z ≡ y) ⊎ (cond t y z ≡ z)
          by_test true = inl refl
          by_test false = inr refl
      by false = by_test (int_lt z y)
        where
          by_test : (t : Bool) → (cond t z y ≡ y) ⊎ (cond t z y ≡ z)
          by_test true = inr refl
          by_test false = inl refl

  own-first : (z : ℤ) (o : Option ℤ) (g : List Lit) (rs : List (List Lit × Denotation)) → most o rs ≡ Some z
      → (let all : List (List Lit × Denotation) = (g, number z) ∷ rs in
      others (number_or_zero (most o rs)) all + 1 ≤ length all)
  own-first z o g rs e =
      let own = itself z in
      let few = others-few z rs in
      let all : List (List Lit × Denotation) = (g, number z) ∷ rs in
      let here : others z all + 1 ≤ length all = omega (arith, own, few) in
      subst (λ y. others (number_or_zero y) all + 1 ≤ length all) (sym e) here

  one-more : (m : ℤ) (g : List Lit) (d : Denotation) (rs : List (List Lit × Denotation)) → others m rs + 1 ≤ length rs
      → (let all : List (List Lit × Denotation) = (g, d) ∷ rs in others m all + 1 ≤ length all)
  one-more m g d rs h = let one = one-few (more_than m d) in omega (arith, one, h)

  no-number : (g : List Lit) (d : Denotation) (o : Option ℤ) (rs : List (List Lit × Denotation))
      → with_value high o d ≡ o → Attained o rs → (let all : List (List Lit × Denotation) = (g, d) ∷ rs in Attained o all)
  no-number g d o rs same h =
      let all : List (List Lit × Denotation) = (g, d) ∷ rs in
      let e : most o all ≡ most o rs = ap (λ y. most y rs) same in
      elim h as (λ _. Attained o all) [
        | inl f ↦ inl (e ∙ f)
        | inr k ↦ inr
            (subst (λ y. others (number_or_zero y) all + 1 ≤ length all) (sym e)
            (one-more (number_or_zero (most o rs)) g d rs k))
      ]

  a-number : (g : List Lit) (z w : ℤ) (o : Option ℤ) (rs : List (List Lit × Denotation))
      → with_number high o z ≡ Some w → (Some w ≡ o) ⊎ (w ≡ z) → Attained (Some w) rs
      → (let all : List (List Lit × Denotation) = (g, number z) ∷ rs in Attained o all)
  a-number g z w o rs is which h =
      let all : List (List Lit × Denotation) = (g, number z) ∷ rs in
      let e : most o all ≡ most (Some w) rs = ap (λ y. most y rs) is in
      let turn : others (number_or_zero (most (Some w) rs)) all + 1 ≤ length all → Attained o all =
      λ k. inr (subst (λ y. others (number_or_zero y) all + 1 ≤ length all) (sym e) k) in
      elim h as (λ _. Attained o all) [
        | inl f ↦ elim which as (λ _. Attained o all) [
          | inl same ↦ inl (e ∙ f ∙ same)
          | inr own ↦ turn (own-first z (Some w) g rs (f ∙ ap Some own))
        ]
        | inr k ↦ turn (one-more (number_or_zero (most (Some w) rs)) g (number z) rs k)
      ]

  next-attained : (g : List Lit) (d : Denotation) (o : Option ℤ) (rs : List (List Lit × Denotation))
      → ((y : Option ℤ) → Attained y rs) → (let all : List (List Lit × Denotation) = (g, d) ∷ rs in Attained o all)
  next-attained g (number z) None rs h = a-number g z z None rs refl (inr refl) (h (Some z))
  next-attained g (number z) (Some y) rs h =
      let w = outer high y z in
      a-number g z w (Some y) rs refl
      (elim (outer-is y z) as (λ _. (Some w ≡ Some y) ⊎ (w ≡ z)) [
        | inl e ↦ inl (ap Some e)
        | inr e ↦ inr e
      ]) (h (Some w))
  next-attained g (named n) o rs h = no-number g (named n) o rs refl (h o)
  next-attained g minus_infinity o rs h = no-number g minus_infinity o rs refl (h o)
  next-attained g plus_infinity o rs h = no-number g plus_infinity o rs refl (h o)
  next-attained g undefined o rs h = no-number g undefined o rs refl (h o)

  attained : (rs : List (List Lit × Denotation)) (o : Option ℤ) → Attained o rs
  attained [] o = inl refl
  attained (r ∷ rs) o = next-attained r.0 r.1 o rs (λ y. attained rs y)

  -- a number stays one
  stays-some : (rs : List (List Lit × Denotation)) (y : ℤ) → most (Some y) rs ≡ None → ⊥
  stays-some [] y e = cc
  stays-some (r ∷ rs) y e = by r.1 (λ w. stays-some rs w) e
    where
      by : (d : Denotation) → ((w : ℤ) → most (Some w) rs ≡ None → ⊥) → most (with_value high (Some y) d) rs ≡ None → ⊥
      by (number z) more f = more (outer high y z) f
      by (named n) more f = more y f
      by minus_infinity more f = more y f
      by plus_infinity more f = more y f
      by undefined more f = more y f

  none-more : (m : ℤ) (rs : List (List Lit × Denotation)) → most None rs ≡ None → others m rs ≡ 0
  none-more m [] e = refl
  none-more m (r ∷ rs) e = by r.1 (none-more m rs) e
    where
      by : (d : Denotation) → (most None rs ≡ None → others m rs ≡ 0) → most (with_value high None d) rs ≡ None
          → ones (more_than m d) + others m rs ≡ 0
      by (number z) more f = absurd (stays-some rs z f)
      by (named n) more f = let none = more f in omega (arith, none)
      by minus_infinity more f = let none = more f in omega (arith, none)
      by plus_infinity more f = let none = more f in omega (arith, none)
      by undefined more f = let none = more f in omega (arith, none)

  -- a row at least is no more than the outermost number
  beside-few : (r : List Lit × Denotation) (rs : List (List Lit × Denotation))
      → others (outermost high (r ∷ rs)) (r ∷ rs) + 1 ≤ length (r ∷ rs)
  beside-few r rs =
      elim (attained (r ∷ rs) None) as (λ _. others (outermost high (r ∷ rs)) (r ∷ rs) + 1 ≤ length (r ∷ rs)) [
        | inl e ↦ (let none = none-more (outermost high (r ∷ rs)) (r ∷ rs) e in omega (arith, none))
        | inr k ↦ k
      ]

more-few : (z : ℤ) (o : Option ℤ) (g : List Lit) (st : Linear) → (with_more z o g st).problem.vars ≤ st.problem.vars + ones o
more-few z None g st = omega arith
more-few z (Some w) g st = under-few (z *ℤ w) (Constant true) g st

rows-spread-few : (z m : ℤ) (rs : List (List Lit × Denotation)) (st : Linear)
    → (fold (row_spread z m) st rs).problem.vars ≤ st.problem.vars + others m rs
rows-spread-few z m [] st = omega arith
rows-spread-few z m (r ∷ rs) st =
    let one = more-few z (more_than m r.1) r.0 st in
    let more = rows-spread-few z m rs (row_spread z m st r) in
    omega (arith, one, more)

spread-few : (high : Bool) (z : ℤ) (r : List Lit × Denotation) (rs : List (List Lit × Denotation)) (st : Linear)
    → (spread z (outermost high (r ∷ rs)) (r ∷ rs) st).problem.vars + 1 ≤ st.problem.vars + length (r ∷ rs)
spread-few high z r rs st =
    let m = outermost high (r ∷ rs) in
    let all = rows-spread-few z m (r ∷ rs) (with_base (z *ℤ m) st.problem st) in
    let few = beside-few high r rs in
    omega (arith, all, few)

module _ (x y : List Lit × Denotation) (xs ys : List (List Lit × Denotation)) where
  -- each side takes one less than it has rows
  sided-few : (high : Bool) (st : Linear)
      → (sided high st (x ∷ xs) (y ∷ ys)).problem.vars + 2 ≤ st.problem.vars + length (x ∷ xs) + length (y ∷ ys)
  sided-few high st =
      let left = spread (pos 1) (outermost high (x ∷ xs)) (x ∷ xs) st in
      let one = spread-few high (pos 1) x xs st in
      let two = spread-few (not high) (neg_ℤ (pos 1)) y ys left in
      omega (arith, one, two)

  meet-few : (st : Linear)
      → (sides_meet st (x ∷ xs) (y ∷ ys)).problem.vars + 1 ≤ st.problem.vars + 2 * (length (x ∷ xs) + length (y ∷ ys))
  meet-few st =
      let low = sided_at true cmp.Ge st (x ∷ xs) (y ∷ ys) in
      let mid = with_problem low.problem st in
      let high = sided_at false cmp.Le mid (x ∷ xs) (y ∷ ys) in
      let one = sided-few true st in
      let own = reaches-few kind.Sum (sided true st (x ∷ xs) (y ∷ ys)) (pos 0) in
      let two = sided-few false mid in
      let next = reaches-few kind.Sum (sided false mid (x ∷ xs) (y ∷ ys)) (pos 0 +ℤ pos 1) in
      let both = both-few low.answer high.answer high.problem in
      omega (arith, one, own, two, next, both)

  once-few : (high : Bool) (c : Cmp) (st : Linear)
      → (sided_at high c st (x ∷ xs) (y ∷ ys)).problem.vars + 1
      ≤ st.problem.vars + 2 * (length (x ∷ xs) + length (y ∷ ys))
  once-few high c st =
      let one = sided-few high st in
      let own = compared-few kind.Sum c (sided high st (x ∷ xs) (y ∷ ys)) (pos 0) in
      omega (arith, one, own)

  by-few : (c : Cmp) (st : Linear)
      → (sides_by c st (x ∷ xs) (y ∷ ys)).problem.vars + 1 ≤ st.problem.vars + 2 * (length (x ∷ xs) + length (y ∷ ys))
  by-few cmp.Eq st = meet-few st
  by-few cmp.Ne st = meet-few st
  by-few cmp.Lt st = once-few false cmp.Lt st
  by-few cmp.Gt st = once-few true cmp.Gt st
  by-few cmp.Le st = once-few false cmp.Le st
  by-few cmp.Ge st = once-few true cmp.Ge st

-- two sides take at most four for each pair of their rows
pub compared-beside-few : (c : Cmp) (st : Linear) (xs ys : List (List Lit × Denotation))
    → (compared_beside c st xs ys).problem.vars ≤ st.problem.vars + 4 * (length xs * length ys)
compared-beside-few c st [] ys = omega arith
compared-beside-few c st (x ∷ xs) [] = omega arith
compared-beside-few c st (x ∷ xs) (y ∷ ys) =
    let few = by-few x y xs ys c st in
    let all : length (x ∷ xs) * length (y ∷ ys) ≡ length xs * length ys + length xs + length ys + 1 = omega arith in
    omega (arith, few, all)

-- ---- all instances

-- an instance takes at most one for each row of its weight, beside those of its condition
pub instance-few : (k : AggKind) (z : ℤ) (F : List Elem → ProblemState → GroundResult)
    (R : List Elem → List (List Lit × Denotation)) (st : Linear) (a : List Elem)
    → (instance_step k z F R st a).problem.vars ≤ (F a st.problem).problem.vars + length (rows_of_kind k (R a))
instance-few k z F R st a =
    let g = F a st.problem in steps-few k z g.answer (rows_of_kind k (R a)) (with_problem g.problem st)
