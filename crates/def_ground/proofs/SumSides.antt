-- What a sum comes to whose parts are also the rows of two sides, and how it compares.
use Rattle.std.proofs.Common.{◌≡◌, ℕ, ◌≤◌, ℤ, pos, neg_ℤ, ◌+ℤ◌, ◌-ℤ◌, ◌*ℤ◌, int_lt, int_eq, Bool, true, false, not}
use Rattle.std.proofs.Common.{◌&&◌, ◌||◌, if◌then◌else◌, List, [], ◌∷◌, map, fold, Option, Some, None, refl, sym, ap}
use Rattle.std.proofs.Common.{◌∙◌}
use Rattle.std.proofs.Common.{arith}
use Rattle.std.specs.List.{list_all, AllByRecursion}
use Rattle.std.proofs.lemmas.Bool.Decides.{nat_tests}
use Rattle.std.proofs.lemmas.Int.{ints}
use Rattle.std.proofs.lemmas.List.Elements.{All-nil}
use Rattle.kb_logic.specs.declared.syntax.AggKind.TheVariants as kind
use Rattle.kb_logic.specs.declared.syntax.Cmp.{Cmp}
use Rattle.kb_logic.specs.declared.syntax.Cmp.TheVariants as cmp
use Rattle.kb_logic.specs.Denotations.{Denotation, number, added, compared}
use Rattle.lit_core.specs.declared.literals.Lit.{Lit}
use Rattle.lit_core.specs.Literals.{literal_value}
use Rattle.ground_core.specs.Problems.{ProblemState, IsProblem, IsLitOf, AreLitsOf}
use Rattle.ground_core.specs.declared.parts.Part.{Part}
use Rattle.ground_core.specs.Meaning.{Satisfies, parts_value, shifted}
use Rattle.ground_core.specs.More.{DefinesMore, Agree}
use Rattle.ground_core.proofs.Mores.{more-trans}
use Rattle.term_values.specs.Rows.{map_rows, selected_values}
use Rattle.def_ground.specs.AskedTerms.{number_of}
use Rattle.def_ground.specs.Comparisons.{comparison_of}
use Rattle.def_ground.specs.declared.answers.Answer.TheVariants.{Constant}
use Rattle.def_ground.specs.Linear.{Linear, with_problem}
use Rattle.def_ground.specs.LinearValues.{IsLinear, Comes}
use Rattle.def_ground.specs.Meanings.{Means}
use Rattle.def_ground.specs.SumSides.{outermost, more_than, with_more, row_spread, spread, sided, sided_at, sides_meet}
use Rattle.def_ground.specs.SumSides.{sides_by, compared_beside, raised, compared_by_parts, compared_sums}
use Rattle.def_ground.proofs.FormSteps.{means-then, means-not}
use Rattle.def_ground.proofs.Growing.{lits-more, more-refl}
use Rattle.def_ground.proofs.Leaves.{rows-more, compared-rows-right}
use Rattle.def_ground.proofs.LinearSteps.{Steps, Says, steps-is, steps-on, comes-on, no-step, row-steps, linear-later}
use Rattle.def_ground.proofs.LinearSteps.{answer-later}
use Rattle.def_ground.proofs.Products.{times-plus, one-times, neg-times}
use Rattle.def_ground.proofs.ThresholdComparisons.{comes-compared, both-right}
use Rattle.def_ground.proofs.ThresholdSides.{sides-compared}

-- ---- one row

same-if : (t : Bool) (x : Denotation) → x ≡ (if t then x else x)
same-if true x = refl
same-if false x = refl

-- with what a row is more, times a factor
abbrev more_by : ℤ → Option ℤ → Denotation → Denotation
more_by z None x = x
more_by z (Some w) x = added x (number (z *ℤ w))

says-true : (st : Linear) → Says st (Constant true) (λ v. true)
says-true st = record { within = tt; right = λ v s. refl }

more-steps : (z : ℤ) (o : Option ℤ) (g : List Lit) (st : Linear) → IsLinear kind.Sum st → AreLitsOf st.problem.vars g
    → Steps kind.Sum st (with_more z o g st) (λ v x. if list_all (literal_value v) g then more_by z o x else x)
more-steps z None g st h wg =
    steps-is kind.Sum st st (λ v x. x) (λ v x. if list_all (literal_value v) g then x else x)
    (λ v s x. same-if (list_all (literal_value v) g) x) (no-step kind.Sum st h)
more-steps z (Some w) g st h wg = row-steps z (Constant true) (λ v. true) st (says-true st) g wg kind.Sum (number w) h

-- ---- all rows of a side

-- with what the values that are selected are more
abbrev all_more : ℤ → ℤ → Denotation → List Denotation → Denotation
all_more z m x ds = fold (λ y d. more_by z (more_than m d) y) x ds

more-first : (z m : ℤ) (t : Bool) (x d : Denotation) (ds : List Denotation)
    → all_more z m (if t then more_by z (more_than m d) x else x) ds ≡ all_more z m x (if t then d ∷ ds else ds)
more-first z m true x d ds = refl
more-first z m false x d ds = refl

rows-spread : (z m : ℤ) (n : ℕ) (rs : List (List Lit × Denotation)) → AllByRecursion (λ r. AreLitsOf n r.0) rs
    → (st : Linear) → n ≤ st.problem.vars → IsLinear kind.Sum st
    → Steps kind.Sum st (fold (row_spread z m) st rs) (λ v x. all_more z m x (selected_values v rs))
rows-spread z m n [] wg st le h = no-step kind.Sum st h
rows-spread z m n (r ∷ rs) wg st le h =
    let f : (ℕ → Bool) → Denotation → Denotation =
    λ v x. if list_all (literal_value v) r.0 then more_by z (more_than m r.1) x else x in
    let rest : (ℕ → Bool) → Denotation → Denotation = λ v x. all_more z m x (selected_values v rs) in
    let next = row_spread z m st r in
    let last = fold (row_spread z m) next rs in
    let one : Steps kind.Sum st next f = more-steps z (more_than m r.1) r.0 st h
    (lits-more n st.problem.vars le r.0 wg.0) in
    let grown = one.more.grows in
    let more : Steps kind.Sum next last rest = rows-spread z m n rs wg.1 next (omega (arith, le, grown)) one.linear in
    steps-is kind.Sum st last (λ v x. rest v (f v x)) (λ v x. all_more z m x (selected_values v (r ∷ rs)))
    (λ v s x. more-first z m (list_all (literal_value v) r.0) x r.1 (selected_values v rs))
    (steps-on kind.Sum st next last f rest one more)

-- m and what another number is more are that number
whole-number : (z m d x : ℤ) → more_by z (more_than m (number d)) (number (x +ℤ z *ℤ m)) ≡ number (x +ℤ z *ℤ d)
whole-number z m d x = by (int_eq d m) refl
  where
    by : (t : Bool) → int_eq d m ≡ t
        → more_by z (if t then None else Some (d -ℤ m)) (number (x +ℤ z *ℤ m)) ≡ number (x +ℤ z *ℤ d)
    by true e = let same : m ≡ d = grind (arith, ints, nat_tests) in ap (λ y. number (x +ℤ z *ℤ y)) same
    by false e =
        let plus = times-plus z m (d -ℤ m) in
        let whole : m +ℤ (d -ℤ m) ≡ d = omega (arith, ints) in
        let times = ap (λ y. z *ℤ y) whole in
        let total : (x +ℤ z *ℤ m) +ℤ z *ℤ (d -ℤ m) ≡ x +ℤ z *ℤ d = omega (arith, ints, plus, times) in
        ap number total

-- the rows are over p's variables, and exactly one has true guards: that of this number, which these variables decide
pub record IsNumberSide (p : ProblemState) (rs : List (List Lit × Denotation)) (D : (ℕ → Bool) → ℤ) : Type 0 where
  pub within : AllByRecursion (λ r. AreLitsOf p.vars r.0) rs
  pub one : (v : ℕ → Bool) → Satisfies p v → selected_values v rs ≡ number (D v) ∷ []
  pub local : (v w : ℕ → Bool) → Agree p.vars v w → D v ≡ D w

-- a side adds its number, times the factor, whatever number it is spread from
spread-comes : (z m : ℤ) (p : ProblemState) (rs : List (List Lit × Denotation)) (D : (ℕ → Bool) → ℤ)
    → IsNumberSide p rs D → (st : Linear) (V : (ℕ → Bool) → ℤ) → Comes kind.Sum p st (λ v. number (V v))
    → Comes kind.Sum p (spread z m rs st) (λ v. number (V v +ℤ z *ℤ D v))
spread-comes z m p rs D side st V h =
    let mid = with_more z (Some m) [] st in
    let last = spread z m rs st in
    let base : Steps kind.Sum st mid (λ v x. added x (number (z *ℤ m))) =
    more-steps z (Some m) [] st h.linear (All-nil (IsLitOf st.problem.vars)) in
    let one = comes-on kind.Sum p st mid (λ v. number (V v)) (λ v x. added x (number (z *ℤ m))) h base in
    let rows : Steps kind.Sum mid last (λ v x. all_more z m x (selected_values v rs)) =
    rows-spread z m p.vars rs side.within mid one.more.grows base.linear in
    let all = comes-on kind.Sum p mid last (λ v. number (V v +ℤ z *ℤ m))
    (λ v x. all_more z m x (selected_values v rs)) one rows in record {
      linear = all.linear;
      more = all.more;
      right = λ v s.
          all.right v s
          ∙ ap (all_more z m (number (V v +ℤ z *ℤ m))) (side.one v (all.more.restricts v s))
          ∙ whole-number z m (D v) (V v);
    }

-- ---- both sides

less-agree : (n m : ℕ) → n ≤ m → (v w : ℕ → Bool) → Agree m v w → Agree n v w
less-agree n m le v w agree k low high = agree k low (omega (arith, le, high))

-- it comes to C, and what is left of the sides to A and B
pub record AreSides (p : ProblemState) (st : Linear) (xs ys : List (List Lit × Denotation)) (C A B : (ℕ → Bool) → ℤ)
    : Type 0 where
  pub sum : Comes kind.Sum p st (λ v. number (C v))
  pub left : IsNumberSide p xs A
  pub right : IsNumberSide p ys B

-- what is left of the sides, on the right
abbrev pub says_so : Cmp → (ℕ → Bool) → (C A B : (ℕ → Bool) → ℤ) → Bool
says_so c v C A B = compared c (number (C v)) (number (B v -ℤ A v))

-- all on the left
all-left : (c : Cmp) (x a y : ℤ)
    → compared c (number ((x +ℤ pos 1 *ℤ a) +ℤ neg_ℤ (pos 1) *ℤ y)) (number (pos 0))
    ≡ compared c (number x) (number (y -ℤ a))
all-left c x a y =
    let e = one-times a in
    let f = neg-times (pos 1) y in
    let g = one-times y in
    let whole : (x +ℤ pos 1 *ℤ a) +ℤ neg_ℤ (pos 1) *ℤ y ≡ (x +ℤ a) -ℤ y = omega (arith, ints, e, f, g) in
    let none : pos 0 ≡ pos 0 -ℤ pos 0 = omega (arith, ints) in
    let left : (x +ℤ a) +ℤ pos 0 ≡ x +ℤ a = omega (arith, ints) in
    let right : y +ℤ pos 0 ≡ pos 0 +ℤ y = omega (arith, ints) in
    let alone : x -ℤ pos 0 ≡ x = omega (arith, ints) in
    ap (λ d. compared c (number d) (number (pos 0))) whole ∙ ap (λ d. compared c (number ((x +ℤ a) -ℤ y)) (number d)) none
    ∙ sym (sides-compared c (x +ℤ a) y (pos 0) (pos 0))
    ∙ ap (λ d. compared c (number d) (number (y +ℤ pos 0))) left
    ∙ ap (λ d. compared c (number (x +ℤ a)) (number d)) right
    ∙ sides-compared c x (pos 0) a y ∙ ap (λ d. compared c (number d) (number (y -ℤ a))) alone

-- at least and at most
ge-le : (z y : ℤ) → (compared cmp.Ge (number z) (number y) && compared cmp.Le (number z) (number y))
    ≡ compared cmp.Eq (number z) (number y)
ge-le z y = by (int_lt y z) (int_lt z y) (int_eq z y) refl refl
  where
    by : (s t e : Bool) → int_lt y z ≡ s → int_lt z y ≡ t → ((s || e) && (t || e)) ≡ e
    by true true true f g = refl
    by true true false f g = absurd (wrong f g)
      where
        wrong : int_lt y z ≡ true → int_lt z y ≡ true → ⊥
        wrong f g = grind (arith, ints, nat_tests)
    by true false true f g = refl
    by true false false f g = refl
    by false true true f g = refl
    by false true false f g = refl
    by false false true f g = refl
    by false false false f g = refl

module _ (xs ys : List (List Lit × Denotation)) (C A B : (ℕ → Bool) → ℤ) where
  sided-right : (high : Bool) (c : Cmp) (p : ProblemState) (st : Linear) → AreSides p st xs ys C A B
      → (let g = sided_at high c st xs ys in Means p g.problem g.answer (λ v. says_so c v C A B))
  sided-right high c p st h =
      let left = spread (pos 1) (outermost high xs) xs st in
      let one = spread-comes (pos 1) (outermost high xs) p xs A h.left st C h.sum in
      let both = spread-comes (neg_ℤ (pos 1)) (outermost (not high) ys) p ys B h.right left (λ v. C v +ℤ pos 1 *ℤ A v)
      one in
      let g = sided_at high c st xs ys in
      let V : (ℕ → Bool) → ℤ = λ v. (C v +ℤ pos 1 *ℤ A v) +ℤ neg_ℤ (pos 1) *ℤ B v in
      means-then p p g.problem g.answer (λ v. compared c (number (V v)) (number (pos 0))) (λ v. says_so c v C A B)
      (more-refl p) (comes-compared kind.Sum c p (sided high st xs ys) (λ v. number (V v)) (pos 0) both)
      (λ v s. all-left c (C v) (A v) (B v))

  -- the same sides, over a problem that defines more
  later-sides : (p q : ProblemState) (st : Linear) → AreSides p st xs ys C A B → IsProblem q
      → DefinesMore st.problem q → AreSides q (with_problem q st) xs ys C A B
  later-sides p q st h fine more =
      let all = more-trans p st.problem q h.sum.more more in record {
        sum = record {
          linear = linear-later kind.Sum st q h.sum.linear fine more;
          more = more-refl q;
          right = λ v s. h.sum.right v (more.restricts v s);
        };
        left = record {
          within = rows-more p.vars q.vars all.grows xs h.left.within;
          one = λ v s. h.left.one v (all.restricts v s);
          local = λ v w agree. h.left.local v w (less-agree p.vars q.vars all.grows v w agree);
        };
        right = record {
          within = rows-more p.vars q.vars all.grows ys h.right.within;
          one = λ v s. h.right.one v (all.restricts v s);
          local = λ v w agree. h.right.local v w (less-agree p.vars q.vars all.grows v w agree);
        };
      }

  meet-right : (p : ProblemState) (st : Linear) → AreSides p st xs ys C A B
      → (let g = sides_meet st xs ys in Means p g.problem g.answer (λ v. says_so cmp.Eq v C A B))
  meet-right p st h =
      let own : AreSides st.problem st xs ys C A B =
      later-sides p st.problem st h h.sum.linear.fine (more-refl st.problem) in
      let low = sided_at true cmp.Ge st xs ys in
      let F : (ℕ → Bool) → Bool = λ v. says_so cmp.Ge v C A B in
      let one : Means st.problem low.problem low.answer F = sided-right true cmp.Ge st.problem st own in
      let mid = with_problem low.problem st in
      let high = sided_at false cmp.Le mid xs ys in
      let G : (ℕ → Bool) → Bool = λ v. says_so cmp.Le v C A B in
      let two : Means low.problem high.problem high.answer G = sided-right false cmp.Le low.problem mid
      (later-sides st.problem low.problem st own one.fine one.more) in
      let last = sides_meet st xs ys in
      let both = both-right high.problem two.fine F G low.answer high.answer
      (answer-later low.problem.vars high.problem.vars two.more.grows low.answer one.within) two.within
      (λ v s. one.right v (two.more.restricts v s)) two.right in
      means-then p high.problem last.problem last.answer (λ v. F v && G v) (λ v. says_so cmp.Eq v C A B)
      (more-trans p st.problem high.problem h.sum.more
      (more-trans st.problem low.problem high.problem one.more two.more))
      both (λ v s. ge-le (C v) (B v -ℤ A v))

  by-right : (c : Cmp) (p : ProblemState) (st : Linear) → AreSides p st xs ys C A B
      → (let g = sides_by c st xs ys in Means p g.problem g.answer (λ v. says_so c v C A B))
  by-right cmp.Eq p st h = meet-right p st h
  by-right cmp.Ne p st h = means-not p (sides_meet st xs ys) (λ v. says_so cmp.Eq v C A B) (meet-right p st h)
  by-right cmp.Lt p st h = sided-right false cmp.Lt p st h
  by-right cmp.Gt p st h = sided-right true cmp.Gt p st h
  by-right cmp.Le p st h = sided-right false cmp.Le p st h
  by-right cmp.Ge p st h = sided-right true cmp.Ge p st h

-- without rows there is no valuation
rowless-right : (p : ProblemState) (st : Linear) (V : (ℕ → Bool) → Denotation) (F : (ℕ → Bool) → Bool)
    (D : (ℕ → Bool) → ℤ) → Comes kind.Sum p st V → IsNumberSide p [] D → Means p st.problem (Constant true) F
rowless-right p st V F D h side = record {
  fine = h.linear.fine;
  more = h.more;
  within = tt;
  right = λ v s. absurd (wrong v (side.one v (h.more.restricts v s)));
}
  where
    wrong : (v : ℕ → Bool) → [] ≡ number (D v) ∷ [] → ⊥
    wrong v e = cc

beside-right : (c : Cmp) (p : ProblemState) (st : Linear) (xs ys : List (List Lit × Denotation))
    (C A B : (ℕ → Bool) → ℤ) → AreSides p st xs ys C A B
    → (let g = compared_beside c st xs ys in Means p g.problem g.answer (λ v. says_so c v C A B))
beside-right c p st [] ys C A B h =
    rowless-right p st (λ v. number (C v)) (λ v. says_so c v C A B) A h.sum h.left
beside-right c p st (x ∷ xs) [] C A B h =
    rowless-right p st (λ v. number (C v)) (λ v. says_so c v C A B) B h.sum h.right
beside-right c p st (x ∷ xs) (y ∷ ys) C A B h = by-right (x ∷ xs) (y ∷ ys) C A B c p st h

-- ---- a sum without parts

pub raised-within : (n : ℕ) (w : ℤ) (rs : List (List Lit × Denotation)) → AllByRecursion (λ r. AreLitsOf n r.0) rs
    → AllByRecursion (λ r. AreLitsOf n r.0) (map_rows (raised w) rs)
raised-within n w [] h = tt
raised-within n w (r ∷ rs) h = (h.0, raised-within n w rs h.1)

raised-if : (w : ℤ) (t : Bool) (d : Denotation) (xs : List Denotation) (ds : List Denotation) → xs ≡ map (raised w) ds
    → (if t then raised w d ∷ xs else xs) ≡ map (raised w) (if t then d ∷ ds else ds)
raised-if w true d xs ds e = ap (λ l. raised w d ∷ l) e
raised-if w false d xs ds e = e

raised-selected : (w : ℤ) (v : ℕ → Bool) (rs : List (List Lit × Denotation))
    → selected_values v (map_rows (raised w) rs) ≡ map (raised w) (selected_values v rs)
raised-selected w v [] = refl
raised-selected w v (r ∷ rs) =
    raised-if w (list_all (literal_value v) r.0) r.1 (selected_values v (map_rows (raised w) rs)) (selected_values v rs)
    (raised-selected w v rs)

-- without parts it is its number
bare-sum : (p : ProblemState) (st : Linear) (C : (ℕ → Bool) → ℤ) → Comes kind.Sum p st (λ v. number (C v))
    → st.parts ≡ [] → (v : ℕ → Bool) → Satisfies st.problem v → st.base ≡ C v
bare-sum p st C h none v s =
    let value : number (st.base +ℤ pos 0) ≡ number (C v) =
    sym (ap (λ ps. shifted st.base (parts_value v kind.Sum ps)) none) ∙ h.right v s in
    let same = ap number_of value in omega (arith, ints, same)

number-moved : (c : Cmp) (base x a y : ℤ) → base ≡ x
    → compared c (number (a +ℤ base)) (number y) ≡ compared c (number x) (number (y -ℤ a))
number-moved c base x a y e =
    let left : a +ℤ base ≡ x +ℤ a = omega (arith, ints, e) in
    let right : y ≡ pos 0 +ℤ y = omega (arith, ints) in
    let alone : x -ℤ pos 0 ≡ x = omega (arith, ints) in
    ap (λ d. compared c (number d) (number y)) left ∙ ap (λ d. compared c (number (x +ℤ a)) (number d)) right
    ∙ sides-compared c x (pos 0) a y ∙ ap (λ d. compared c (number d) (number (y -ℤ a))) alone

bare-right : (c : Cmp) (p : ProblemState) (st : Linear) (xs ys : List (List Lit × Denotation))
    (C A B : (ℕ → Bool) → ℤ) → AreSides p st xs ys C A B → st.parts ≡ []
    → (let g = comparison_of c (map_rows (raised st.base) xs) ys st.problem in
    Means p g.problem g.answer (λ v. says_so c v C A B))
bare-right c p st xs ys C A B h none =
    let q = st.problem in
    let over = later-sides xs ys C A B p q st h h.sum.linear.fine (more-refl q) in
    let g = comparison_of c (map_rows (raised st.base) xs) ys q in
    let X : (ℕ → Bool) → Denotation = λ v. number (A v +ℤ st.base) in
    let Y : (ℕ → Bool) → Denotation = λ v. number (B v) in
    means-then p q g.problem g.answer (λ v. compared c (X v) (Y v)) (λ v. says_so c v C A B) h.sum.more
    (compared-rows-right c q (map_rows (raised st.base) xs) ys X Y h.sum.linear.fine
    (raised-within q.vars st.base xs over.left.within) over.right.within
    (λ v w agree.
    ap (λ z. compared c (number (z +ℤ st.base)) (Y v)) (over.left.local v w agree)
    ∙ ap (λ z. compared c (X w) (number z)) (over.right.local v w agree))
    (λ v s. raised-selected st.base v xs ∙ ap (map (raised st.base)) (over.left.one v s)) over.right.one)
    (λ v s. number-moved c st.base (C v) (A v) (B v) (bare-sum p st C h.sum none v s))

-- the answer is how the sum compares with what is left of the sides
pub sums-right : (c : Cmp) (p : ProblemState) (st : Linear) (xs ys : List (List Lit × Denotation))
    (C A B : (ℕ → Bool) → ℤ) → AreSides p st xs ys C A B
    → (let g = compared_sums c st xs ys in Means p g.problem g.answer (λ v. says_so c v C A B))
sums-right c p st xs ys C A B h = by st.parts refl
  where
    by : (ps : List Part) → st.parts ≡ ps
        → (let g = compared_by_parts ps c st xs ys in Means p g.problem g.answer (λ v. says_so c v C A B))
    by [] none = bare-right c p st xs ys C A B h none
    by (q ∷ ps) some = beside-right c p st xs ys C A B h
