-- Sides of comparisons as weighted literals, and their comparison.
use Rattle.std.proofs.Common.{◌≡◌, ℤ, pos, ◌+ℤ◌, ◌-ℤ◌, ◌*ℤ◌, Bool, true, false, List, []}
use Rattle.std.proofs.Common.{◌∷◌, ◌++◌, ℕ, cond, Option, Some, None, map, filter, fold, if◌then◌else◌, refl, sym, ap}
use Rattle.std.proofs.Common.{◌∙◌, arith, inl, inr}
use Rattle.std.specs.List.{AllByRecursion}
use Rattle.std.proofs.lemmas.Int.{ints}
use Rattle.kb_logic.specs.declared.elements.Elem.{Elem}
use Rattle.kb_logic.specs.declared.syntax.AggKind.{AggKind}
use Rattle.kb_logic.specs.declared.syntax.AggKind.TheVariants as kind
use Rattle.kb_logic.specs.declared.syntax.Cmp.{Cmp}
use Rattle.kb_logic.specs.declared.vocabularies.Bound.{Bound}
use Rattle.kb_logic.specs.Denotations.{Denotation, number, as_number, lesser, greater, compared, aggregate_value}
use Rattle.kb_logic.specs.Meaning.{value_of, truth_of, values_where}
use Rattle.kb_logic.specs.Structures.{choices}
use Rattle.kb_logic.specs.Trees.{TermTree, FormulaTree, aggregate}
use Rattle.kb_logic.proofs.Has.{Has}
use Rattle.lit_core.specs.declared.literals.Lit.{Lit}
use Rattle.ground_core.specs.Problems.{ProblemState, IsProblem}
use Rattle.ground_core.specs.Meaning.{Satisfies}
use Rattle.term_values.specs.GroundBases.{GroundBase, structure_of, IsOver}
use Rattle.term_values.specs.Rows.{rows_of_term, selected_values}
use Rattle.term_values.proofs.RowLaws.{term-right}
use Rattle.def_ground.specs.AskedTerms.{number_of}
use Rattle.def_ground.specs.Forms.{no_parts_yet, compared_sides, form_of, sums_of}
use Rattle.def_ground.specs.GroundForms.{IsAdding, IsNumberTerm}
use Rattle.def_ground.specs.Linear.{Linear}
use Rattle.def_ground.specs.LinearValues.{Comes, joined_values, joined_value, IsRightAfter}
use Rattle.def_ground.specs.Meanings.{Means, HasAtoms, HasRoom}
use Rattle.def_ground.specs.SumSides.{compared_sums}
use Rattle.def_ground.specs.Thresholds.{compared_with_rows, flipped}
use Rattle.def_ground.proofs.Growing.{more-refl}
use Rattle.def_ground.proofs.Leaves.{rows-more, term-in}
use Rattle.def_ground.proofs.LinearInstances.{HasWeight, instances-come}
use Rattle.def_ground.proofs.LinearStart.{start-comes}
use Rattle.def_ground.proofs.ThresholdRows.{comes-compared-rows}
use Rattle.def_ground.proofs.SumSides.{IsNumberSide, sums-right}
use Rattle.def_ground.proofs.ThresholdSides.{flipped-compared, sides-compared}
use Rattle.def_ground.proofs.FormSteps.{means-then}
use Rattle.def_ground.proofs.Products.{times-plus, times-one, times-zero}
use Rattle.def_ground.proofs.SideValues.{weight_sum, AreNumbers, weight_for, adding-value, all-has, number-is}
use Rattle.def_ground.proofs.SideValues.{number-term}
use Rattle.def_ground.proofs.SideValues.{weights-are, Splits}
use Rattle.def_ground.proofs.SplitTerms.{counted_in, left_in, nothing-counted}
use Rattle.def_ground.specs.Counting.{has_aggregate}

pub comes-is : (k : AggKind) (p : ProblemState) (st : Linear) (V W : (ℕ → Bool) → Denotation)
    → ((v : ℕ → Bool) → Satisfies st.problem v → V v ≡ W v) → Comes k p st V → Comes k p st W
comes-is k p st V W e h = record { linear = h.linear; more = h.more; right = λ v s. h.right v s ∙ e v s }

-- a count and a sum come to their parts in the same way
pub as-kind : (k : AggKind) (p : ProblemState) (st : Linear) (V : (ℕ → Bool) → Denotation) → IsAdding k
    → Comes kind.Sum p st V → Comes k p st V
as-kind kind.Count p st V h c =
    record {
      linear = record { fine = c.linear.fine; within = c.linear.within; plain = tt };
      more = c.more;
      right = c.right;
    }
as-kind kind.Sum p st V h c = c
as-kind kind.Min p st V h c = absurd h
as-kind kind.Max p st V h c = absurd h

pub as-sum : (k : AggKind) (p : ProblemState) (st : Linear) (V : (ℕ → Bool) → Denotation) → IsAdding k → Comes k p st V
    → Comes kind.Sum p st V
as-sum kind.Count p st V h c =
    record {
      linear = record { fine = c.linear.fine; within = c.linear.within; plain = tt };
      more = c.more;
      right = c.right;
    }
as-sum kind.Sum p st V h c = c
as-sum kind.Min p st V h c = absurd h
as-sum kind.Max p st V h c = absurd h

-- ---- what instances are joined to

next-weight : (z w s y : ℤ) → (y +ℤ z *ℤ w) +ℤ z *ℤ s ≡ y +ℤ z *ℤ (w +ℤ s)
next-weight z w s y = let e = times-plus z w s in omega (arith, ints, e)

no-weight : (z s y : ℤ) → y +ℤ z *ℤ s ≡ y +ℤ z *ℤ (pos 0 +ℤ s)
no-weight z s y = let same : s ≡ pos 0 +ℤ s = omega (arith, ints) in ap (λ x. y +ℤ z *ℤ x) same

joined-number : (k : AggKind) (z : ℤ) (y w : ℤ) (W : List Elem → ℤ) (a : List Elem) → IsAdding k → W a ≡ w
    → joined_value k z (number y) w ≡ number (y +ℤ z *ℤ weight_for k W a)
joined-number kind.Count z y w W a h e = ap (λ x. number (y +ℤ x)) (sym (times-one z))
joined-number kind.Sum z y w W a h e = ap (λ x. number (y +ℤ z *ℤ x)) (sym e)
joined-number kind.Min z y w W a h e = absurd h
joined-number kind.Max z y w W a h e = absurd h

-- the weights of a count or a sum, times a factor
pub joined-sum : (k : AggKind) (z : ℤ) (T : List Elem → Bool) (W : List Elem → ℤ) (y : ℤ) (as' : List (List Elem))
    → IsAdding k
    → joined_values k z T W (number y) as' ≡ number (y +ℤ z *ℤ weight_sum T (weight_for k W) as')
joined-sum k z T W y [] h =
    let e = times-zero z in let same : y ≡ y +ℤ z *ℤ pos 0 = omega (arith, ints, e) in ap number same
joined-sum k z T W y (a ∷ as') h = by_truth (T a) (λ x. joined-sum k z T W x as' h)
  where
    S : ℤ
    S = weight_sum T (weight_for k W) as'

    by_truth : (c : Bool) → ((x : ℤ) → joined_values k z T W (number x) as' ≡ number (x +ℤ z *ℤ S))
        → fold (joined_value k z) (number y) (map W (cond c (a ∷ filter T as') (filter T as')))
        ≡ number (y +ℤ z *ℤ ((if c then weight_for k W a else pos 0) +ℤ S))
    by_truth true rest =
        ap (λ x. fold (joined_value k z) x (map W (filter T as'))) (joined-number k z y (W a) W a h refl)
        ∙ rest (y +ℤ z *ℤ weight_for k W a) ∙ ap number (next-weight z (weight_for k W a) S y)
    by_truth false rest = rest y ∙ ap number (no-weight z S y)

-- a minimum or a maximum
abbrev pub IsExtreme : AggKind → Type 0
IsExtreme kind.Count = ⊥
IsExtreme kind.Sum = ⊥
IsExtreme kind.Min = Unit {0}
IsExtreme kind.Max = Unit {0}

-- the least or the greatest of two
abbrev outer : AggKind → Denotation → Denotation → Denotation
outer kind.Count x y = x
outer kind.Sum x y = x
outer kind.Min x y = lesser x y
outer kind.Max x y = greater x y

joined-outer : (k : AggKind) (z : ℤ) (T : List Elem → Bool) (V : List Elem → Denotation) (W : List Elem → ℤ)
    (x : Denotation) (as' : List (List Elem)) → ((y : Denotation) (w : ℤ) → joined_value k z y w ≡ outer k y (number w))
    → AreNumbers V W as' → joined_values k z T W x as' ≡ fold (outer k) x (values_where T V as')
joined-outer k z T V W x [] step are = refl
joined-outer k z T V W x (a ∷ as') step are =
    by_truth (T a) (λ y. joined-outer k z T V W y as' step (λ c m. are c (inr m)))
  where
    by_truth : (c : Bool)
        → ((y : Denotation) → joined_values k z T W y as' ≡ fold (outer k) y (values_where T V as'))
        → fold (joined_value k z) x (map W (cond c (a ∷ filter T as') (filter T as')))
        ≡ fold (outer k) x (map V (cond c (a ∷ filter T as') (filter T as')))
    by_truth true rest =
        ap (λ y. fold (joined_value k z) y (map W (filter T as')))
        (step x (W a) ∙ ap (outer k x) (sym (are a (inl refl)))) ∙ rest (outer k x (V a))
    by_truth false rest = rest x

pub joined-extreme : (k : AggKind) (z : ℤ) (T : List Elem → Bool) (V : List Elem → Denotation) (W : List Elem → ℤ)
    (as' : List (List Elem)) → IsExtreme k → AreNumbers V W as'
    → joined_values k z T W (aggregate_value k []) as' ≡ aggregate_value k (values_where T V as')
joined-extreme kind.Count z T V W as' h are = absurd h
joined-extreme kind.Sum z T V W as' h are = absurd h
joined-extreme kind.Min z T V W as' h are =
    joined-outer kind.Min z T V W (aggregate_value kind.Min []) as' (λ y w. refl) are
joined-extreme kind.Max z T V W as' h are =
    joined-outer kind.Max z T V W (aggregate_value kind.Max []) as' (λ y w. refl) are

-- ---- the parts of an aggregate

module _ (b : GroundBase) (p : ProblemState) (at : HasAtoms b p) (room : HasRoom b p) where
  -- each instance of the formula is right, whatever came before
  abbrev pub AreRight : List Bound → FormulaTree → List Elem → Type 0
  AreRight bs f e =
      (a : List Elem) → Has (choices b.domains bs) a
      → IsRightAfter p (λ q. form_of b f (e ++ a) q) (λ v. truth_of (structure_of b v) f (e ++ a))

  abbrev pub AreWeights : List Bound → TermTree → List Elem → Type 0
  AreWeights bs t e = AllByRecursion (λ a. IsNumberTerm b t (e ++ a)) (choices b.domains bs)

  abbrev truths : FormulaTree → List Elem → (ℕ → Bool) → List Elem → Bool
  truths f e v a = truth_of (structure_of b v) f (e ++ a)

  abbrev weights : TermTree → List Elem → (ℕ → Bool) → List Elem → ℤ
  weights t e v a = number_of (value_of (structure_of b v) t (e ++ a))

  has-weight : (k : AggKind) (t : TermTree) (e a : List Elem) → IsNumberTerm b t (e ++ a)
      → HasWeight k p (rows_of_term b t (e ++ a)) (λ v. weights t e v a)
  has-weight k t e a h = by_kind k
    where
      selected : (v : ℕ → Bool) → Satisfies p v
          → selected_values v (rows_of_term b t (e ++ a)) ≡ number (weights t e v a) ∷ []
      selected v s =
          term-right b v (at v s) (e ++ a) t h.term
          ∙ ap (λ d. d ∷ [])
          (number-is (value_of (structure_of b v) t (e ++ a)) (number-term b v (at v s) t (e ++ a) h))

      by_kind : (k : AggKind) → HasWeight k p (rows_of_term b t (e ++ a)) (λ v. weights t e v a)
      by_kind kind.Count = tt
      by_kind kind.Sum = record { within = term-in b p room (e ++ a) t; one = selected }
      by_kind kind.Min = record { within = term-in b p room (e ++ a) t; one = selected }
      by_kind kind.Max = record { within = term-in b p room (e ++ a) t; one = selected }

  aggregate-comes : (k : AggKind) (z : ℤ) (bs : List Bound) (f : FormulaTree) (t : TermTree) (e : List Elem)
      → AreRight bs f e → AreWeights bs t e → (st : Linear) (V : (ℕ → Bool) → Denotation) → Comes k p st V
      → Comes k p (sums_of b z (aggregate k bs f t) e st)
      (λ v. joined_values k z (truths f e v) (weights t e v) (V v) (choices b.domains bs))
  aggregate-comes k z bs f t e right ws st V h =
      instances-come k z p (λ a q. form_of b f (e ++ a) q) (λ a. rows_of_term b t (e ++ a)) (truths f e) (weights t e)
      (choices b.domains bs)
      (λ a m. record {
        right = right a m;
        weight = has-weight k t e a
            (all-has (λ a. IsNumberTerm b t (e ++ a)) (choices b.domains bs) a ws m);
      })
      st V h

  -- a count or a sum adds its value, times the factor
  pub adding-comes : (k : AggKind) (z : ℤ) (bs : List Bound) (f : FormulaTree) (t : TermTree) (e : List Elem)
      → IsAdding k → AreRight bs f e → AreWeights bs t e → (st : Linear) (V : (ℕ → Bool) → ℤ)
      → Comes kind.Sum p st (λ v. number (V v))
      → Comes kind.Sum p (sums_of b z (aggregate k bs f t) e st)
      (λ v. number (V v +ℤ z *ℤ counted_in (structure_of b v) (aggregate k bs f t) e))
  adding-comes k z bs f t e adding right ws st V h =
      let next = sums_of b z (aggregate k bs f t) e st in
      let as' = choices b.domains bs in
      let made = aggregate-comes k z bs f t e right ws st (λ v. number (V v))
      (as-kind k p st (λ v. number (V v)) adding h) in
      as-sum k p next (λ v. number (V v +ℤ z *ℤ counted_in (structure_of b v) (aggregate k bs f t) e)) adding
      (comes-is k p next (λ v. joined_values k z (truths f e v) (weights t e v) (number (V v)) as')
      (λ v. number (V v +ℤ z *ℤ counted_in (structure_of b v) (aggregate k bs f t) e))
      (λ v s.
      let over = at v (made.more.restricts v s) in
      let is = adding-value k (truths f e v) (λ a. as_number (value_of (structure_of b v) t (e ++ a))) (weights t e v)
      as' adding (weights-are b v over bs t e ws) in
      joined-sum k z (truths f e v) (weights t e v) (V v) as' adding
      ∙ ap (λ x. number (V v +ℤ z *ℤ x)) (sym (ap number_of is))) made)

  -- a minimum or a maximum alone
  pub extreme-comes : (k : AggKind) (bs : List Bound) (f : FormulaTree) (t : TermTree) (e : List Elem)
      → IsProblem p → IsExtreme k → AreRight bs f e → AreWeights bs t e
      → Comes k p (sums_of b (pos 1) (aggregate k bs f t) e (no_parts_yet p))
      (λ v. value_of (structure_of b v) (aggregate k bs f t) e)
  extreme-comes k bs f t e fine extreme right ws =
      let next = sums_of b (pos 1) (aggregate k bs f t) e (no_parts_yet p) in
      let as' = choices b.domains bs in
      let made = aggregate-comes k (pos 1) bs f t e right ws (no_parts_yet p) (λ v. aggregate_value k [])
      (start-comes k p fine) in
      comes-is k p next (λ v. joined_values k (pos 1) (truths f e v) (weights t e v) (aggregate_value k []) as')
      (λ v. value_of (structure_of b v) (aggregate k bs f t) e)
      (λ v s. joined-extreme k (pos 1) (truths f e v) (λ a. as_number (value_of (structure_of b v) t (e ++ a)))
      (weights t e v) as' extreme (weights-are b v (at v (made.more.restricts v s)) bs t e ws)) made

-- ---- comparisons

module _ (b : GroundBase) (p : ProblemState) (at : HasAtoms b p) (room : HasRoom b p) (c : Cmp) (x y : TermTree)
    (e : List Elem) where
  abbrev xs : List (List Lit × Denotation)
  xs = rows_of_term b x e

  abbrev ys : List (List Lit × Denotation)
  ys = rows_of_term b y e

  abbrev X : (ℕ → Bool) → Denotation
  X v = value_of (structure_of b v) x e

  abbrev Y : (ℕ → Bool) → Denotation
  Y v = value_of (structure_of b v) y e

  -- the side's rows say what its aggregates leave of it
  abbrev pub IsSplit : TermTree → Type 0
  IsSplit t = (v : ℕ → Bool) (over : IsOver b v) → Splits b v over t e

  -- a side without aggregates is one number
  record IsOne (t : TermTree) (v : ℕ → Bool) : Type 0 where
    rows : selected_values v (rows_of_term b t e) ≡ number (number_of (value_of (structure_of b v) t e)) ∷ []
    value : number (number_of (value_of (structure_of b v) t e)) ≡ value_of (structure_of b v) t e

  is-one : (t : TermTree) → has_aggregate t ≡ false → IsSplit t → (v : ℕ → Bool) → Satisfies p v → IsOne t v
  is-one t plain split v s =
      let one = split v (at v s) in
      let none = nothing-counted (structure_of b v) t e plain in
      let d = value_of (structure_of b v) t e in
      let whole : counted_in (structure_of b v) t e +ℤ one.left ≡ one.left = omega (arith, ints, none) in
      let value : d ≡ number one.left = one.value ∙ ap number whole in
      let same : one.left ≡ number_of d = sym (ap number_of value) in
      record { rows = one.rows ∙ ap (λ z. number z ∷ []) same; value = sym (value ∙ ap number same) }

  -- a minimum or a maximum on the left side
  extreme-left : (k : AggKind) (left : Linear) → Comes k p left X → has_aggregate y ≡ false → IsSplit y
      → (let g = compared_with_rows k c left ys in Means p g.problem g.answer (λ v. compared c (X v) (Y v)))
  extreme-left k left h plain split =
      let g = compared_with_rows k c left ys in
      let D : (ℕ → Bool) → ℤ = λ v. number_of (Y v) in
      means-then p p g.problem g.answer (λ v. compared c (X v) (number (D v))) (λ v. compared c (X v) (Y v))
      (more-refl p)
      (comes-compared-rows k c p left X D ys h
      (rows-more p.vars left.problem.vars h.more.grows ys (term-in b p room e y))
      (λ v s. (is-one y plain split v (h.more.restricts v s)).rows))
      (λ v s. ap (compared c (X v)) (is-one y plain split v s).value)

  -- and on the right side
  extreme-right : (k : AggKind) (right : Linear) → Comes k p right Y → has_aggregate x ≡ false → IsSplit x
      → (let g = compared_with_rows k (flipped c) right xs in
      Means p g.problem g.answer (λ v. compared c (X v) (Y v)))
  extreme-right k right h plain split =
      let g = compared_with_rows k (flipped c) right xs in
      let D : (ℕ → Bool) → ℤ = λ v. number_of (X v) in
      means-then p p g.problem g.answer (λ v. compared (flipped c) (Y v) (number (D v)))
      (λ v. compared c (X v) (Y v)) (more-refl p)
      (comes-compared-rows k (flipped c) p right Y D xs h
      (rows-more p.vars right.problem.vars h.more.grows xs (term-in b p room e x))
      (λ v s. (is-one x plain split v (h.more.restricts v s)).rows))
      (λ v s. flipped-compared c (Y v) (D v)
      ∙ ap (λ d. compared c d (Y v)) (is-one x plain split v s).value)

  -- the counts and sums of both sides, and what is left of their rows
  both-adding : (both : Linear)
      → Comes kind.Sum p both (λ v. number (counted_in (structure_of b v) x e -ℤ counted_in (structure_of b v) y e))
      → IsSplit x → IsSplit y
      → (let g = compared_sums c both xs ys in Means p g.problem g.answer (λ v. compared c (X v) (Y v)))
  both-adding both h split-x split-y =
      let g = compared_sums c both xs ys in
      let C : (ℕ → Bool) → ℤ = λ v. counted_in (structure_of b v) x e -ℤ counted_in (structure_of b v) y e in
      let A : (ℕ → Bool) → ℤ = λ v. left_in (structure_of b v) x e in
      let B : (ℕ → Bool) → ℤ = λ v. left_in (structure_of b v) y e in
      means-then p p g.problem g.answer (λ v. compared c (number (C v)) (number (B v -ℤ A v)))
      (λ v. compared c (X v) (Y v)) (more-refl p)
      (sums-right c p both xs ys C A B
      (record { sum = h; left = number-side x split-x; right = number-side y split-y }))
      (λ v s.
      let l = split-x v (at v s) in
      let r = split-y v (at v s) in
      let cx = counted_in (structure_of b v) x e in
      let cy = counted_in (structure_of b v) y e in
      ap (λ z. compared c (number (C v)) (number (B v -ℤ z))) (sym (left-is x v (at v s) l))
      ∙ ap (λ z. compared c (number (C v)) (number (z -ℤ l.left))) (sym (left-is y v (at v s) r))
      ∙ sym (sides-compared c cx cy l.left r.left)
      ∙ ap (λ d. compared c d (number (cy +ℤ r.left))) (sym l.value) ∙ ap (compared c (X v)) (sym r.value))
    where
      left-is : (t : TermTree) (v : ℕ → Bool) (over : IsOver b v) (l : Splits b v over t e)
          → l.left ≡ left_in (structure_of b v) t e
      left-is t v over l = let a = ap number_of l.value in omega (arith, ints, a)

      -- a side's rows, and what is left of it
      number-side : (t : TermTree) → IsSplit t
          → IsNumberSide p (rows_of_term b t e) (λ v. left_in (structure_of b v) t e)
      number-side t split = record {
        within = term-in b p room e t;
        one = λ v s. let l = split v (at v s) in
            l.rows ∙ ap (λ z. number z ∷ []) (left-is t v (at v s) l);
        local = λ v w agree. ap (λ m. left_in m t e) (room.same v w agree);
      }

  pub compared-right : (ox oy : Option AggKind) (left right both : Linear)
      → ((k : AggKind) → ox ≡ Some k → Comes k p left X × (has_aggregate y ≡ false) × IsSplit y)
      → ((k : AggKind) → oy ≡ Some k → Comes k p right Y × (has_aggregate x ≡ false) × IsSplit x)
      → (ox ≡ None → oy ≡ None
      → Comes kind.Sum p both (λ v. number (counted_in (structure_of b v) x e -ℤ counted_in (structure_of b v) y e))
      × IsSplit x × IsSplit y)
      → (let g = compared_sides ox oy c left right both xs ys in
      Means p g.problem g.answer (λ v. compared c (X v) (Y v)))
  compared-right (Some k) oy left right both hl hr hb =
      let h = hl k refl in extreme-left k left h.0 h.1 h.2
  compared-right None (Some k) left right both hl hr hb =
      let h = hr k refl in extreme-right k right h.0 h.1 h.2
  compared-right None None left right both hl hr hb =
      let h = hb refl refl in both-adding both h.0 h.1 h.2
