-- What a formula comes to, by induction.
use Rattle.std.proofs.Common.{◌≡◌, ℕ, ◌+◌, ℤ, pos, neg_ℤ, ◌+ℤ◌, ◌-ℤ◌, ◌*ℤ◌, Bool, true, false, not, ◌||◌, List, []}
use Rattle.std.proofs.Common.{◌∷◌, ◌++◌, if◌then◌else◌, Some, None, cond, fold, refl, sym, ap, subst}
use Rattle.std.proofs.Common.{◌∙◌}
use Rattle.std.proofs.Common.{arith, inl, inr}
use Rattle.std.specs.List.{list_all, list_any, count_by, AllByRecursion}
use Rattle.std.proofs.lemmas.Int.{ints}
use Rattle.std.proofs.lemmas.List.Elements.{All-nil}
use Rattle.std.proofs.lemmas.List.Sums.{sum_by-cons}
use Rattle.kb_logic.specs.declared.elements.Elem.{Elem}
use Rattle.kb_logic.specs.declared.syntax.AggKind.{AggKind}
use Rattle.kb_logic.specs.declared.syntax.AggKind.TheVariants as kind
use Rattle.kb_logic.specs.declared.syntax.Cmp.{Cmp}
use Rattle.kb_logic.specs.declared.vocabularies.Bound.{Bound}
use Rattle.kb_logic.specs.Denotations.{number}
use Rattle.kb_logic.specs.Trees.{TermTree, variable, integer, constructed, application, summation, product, aggregate}
use Rattle.kb_logic.specs.Trees.{TermTrees, no_terms, more_terms, SummandTrees, no_summands, more_summands}
use Rattle.kb_logic.specs.Trees.{FormulaTree, verum, falsum, atom, comparison, negation}
use Rattle.kb_logic.specs.Trees.{conjunction, disjunction, implication, equivalence, universal, existential, numbered}
use Rattle.kb_logic.specs.Trees.{FormulaTrees, no_formulas, more_formulas}
use Rattle.kb_logic.specs.Structures.{choices}
use Rattle.kb_logic.specs.Meaning.{value_of, truth_of, all_true, any_true, signed_of}
use Rattle.kb_logic.proofs.Has.{Has}
use Rattle.lit_core.specs.declared.literals.Lit.{Lit}
use Rattle.ground_core.specs.Problems.{ProblemState, IsProblem, IsLitOf, AreLitsOf}
use Rattle.term_values.specs.GroundBases.{GroundBase, structure_of}
use Rattle.term_values.specs.Rows.{rows_of_term}
use Rattle.def_ground.specs.Answers.{GroundResult, opposite_of}
use Rattle.def_ground.specs.Comparisons.{comparison_of}
use Rattle.def_ground.specs.Counting.{has_aggregate, have_aggregates, sum_has_aggregate, integer_factor, extreme_of}
use Rattle.def_ground.specs.Forms.{with_answer, next_parts, no_more_parts, parts_each, no_parts_yet, compared_sides}
use Rattle.def_ground.specs.Forms.{opposite_result, form_of, parts_of, sums_of, sums_of_summands, sums_of_factors}
use Rattle.def_ground.specs.GroundForms.{IsGroundForm, AreGroundForms, IsGroundSide, IsAddend, AreGroundAddends}
use Rattle.def_ground.specs.GroundForms.{IsOneAddend}
use Rattle.def_ground.specs.Laws.{FormIsRight}
use Rattle.def_ground.specs.Linear.{Linear, instance_step}
use Rattle.def_ground.specs.LinearValues.{Comes, joined_values}
use Rattle.def_ground.specs.Meanings.{Means, HasAtoms, HasRoom}
use Rattle.def_ground.proofs.ComparedSides.{AreRight, comes-is, adding-comes, extreme-comes, joined-sum, IsSplit}
use Rattle.def_ground.proofs.ComparedSides.{compared-right}
use Rattle.def_ground.proofs.FormSteps.{closed-right, constant-right, parts-none, parts-more, each-none, each-more}
use Rattle.def_ground.proofs.FormSteps.{PartsMean, next-right, none-left, taken-fine, means-not, iff-right, or-false}
use Rattle.def_ground.proofs.FormSteps.{parts-truth, each-truth}
use Rattle.def_ground.proofs.Leaves.{atom-right, comparison-right}
use Rattle.def_ground.proofs.LinearInstances.{instances-come}
use Rattle.def_ground.proofs.LinearStart.{start-comes}
use Rattle.def_ground.proofs.Products.{times-plus, times-assoc, times-zero, one-times, neg-times, signed-times}
use Rattle.def_ground.proofs.SideValues.{weight_sum, all-has, addend-splits}
use Rattle.def_ground.proofs.SplitTerms.{counted_in, counted_summands, counted_factors, no-factor-counted, ground-plain}
use Rattle.def_ground.proofs.SplitTerms.{grounds-plain, both-false, neither, nothing-counted, integer-plain}
use Rattle.def_ground.proofs.SplitTerms.{integers-plain}
use Rattle.def_ground.proofs.ThresholdComparisons.{comes-compared}
use Rattle.def_ground.proofs.FormSteps.{has-atoms, has-room}

-- ---- choices that are settled

means-if : (p : ProblemState) (c : Bool) (x y : GroundResult) (V : (ℕ → Bool) → Bool)
    → (c ≡ true → Means p x.problem x.answer V) → (c ≡ false → Means p y.problem y.answer V)
    → (let g = if c then x else y in Means p g.problem g.answer V)
means-if p true x y V h k = h refl
means-if p false x y V h k = k refl

comes-if : (p : ProblemState) (c : Bool) (x y : Linear) (V : (ℕ → Bool) → ℤ)
    → (c ≡ true → Comes kind.Sum p x (λ v. number (V v))) → (c ≡ false → Comes kind.Sum p y (λ v. number (V v)))
    → Comes kind.Sum p (if c then x else y) (λ v. number (V v))
comes-if p true x y V h k = h refl
comes-if p false x y V h k = k refl

pub not-both : (c : Bool) → c ≡ true → c ≡ false → ⊥
not-both true h k = absurd cc
not-both false h k = absurd cc

-- ---- sides

-- what the comparison of two sides comes to where there are aggregates
abbrev sides_of : GroundBase → Cmp → TermTree → TermTree → List Elem → ProblemState → GroundResult
sides_of b c x y e p =
    let left = sums_of b (pos 1) x e (no_parts_yet p) in
    compared_sides (extreme_of x) (extreme_of y) c left (sums_of b (pos 1) y e (no_parts_yet p))
    (sums_of b (neg_ℤ (pos 1)) y e left) (rows_of_term b x e) (rows_of_term b y e)

-- a minimum or a maximum stands opposite a side without aggregates
extreme-alone : (b : GroundBase) (x : TermTree) (other : Bool) (e : List Elem) (k : AggKind) → extreme_of x ≡ Some k
    → IsGroundSide b other x e → other ≡ false
extreme-alone b (variable n) other e k is h = absurd cc
extreme-alone b (integer z) other e k is h = absurd cc
extreme-alone b (constructed ty n) other e k is h = absurd cc
extreme-alone b (application s ts) other e k is h = absurd cc
extreme-alone b (summation ss) other e k is h = absurd cc
extreme-alone b (product ts) other e k is h = absurd cc
extreme-alone b (aggregate kind.Count bs f t) other e k is h = absurd cc
extreme-alone b (aggregate kind.Sum bs f t) other e k is h = absurd cc
extreme-alone b (aggregate kind.Min bs f t) other e k is h = h.0
extreme-alone b (aggregate kind.Max bs f t) other e k is h = h.0

-- a side that is no minimum or maximum is an operand of a sum
pub adding-side : (b : GroundBase) (other : Bool) (x : TermTree) (e : List Elem) → extreme_of x ≡ None
    → IsGroundSide b other x e → IsAddend b x e
adding-side b other (variable n) e none h = h
adding-side b other (integer z) e none h = h
adding-side b other (constructed ty n) e none h = h
adding-side b other (application s ts) e none h = h
adding-side b other (summation ss) e none h = h
adding-side b other (product ts) e none h = h
adding-side b other (aggregate kind.Count bs f t) e none h = h
adding-side b other (aggregate kind.Sum bs f t) e none h = h
adding-side b other (aggregate kind.Min bs f t) e none h = absurd cc
adding-side b other (aggregate kind.Max bs f t) e none h = absurd cc

plain-extreme : (x : TermTree) → has_aggregate x ≡ false → extreme_of x ≡ None
plain-extreme (variable n) h = refl
plain-extreme (integer z) h = refl
plain-extreme (constructed ty n) h = refl
plain-extreme (application s ts) h = refl
plain-extreme (summation ss) h = refl
plain-extreme (product ts) h = refl
plain-extreme (aggregate k bs f t) h = absurd cc

-- a term without aggregates adds no parts
module _ (b : GroundBase) where
  mutual
    no-parts : (t : TermTree) (z : ℤ) (e : List Elem) (st : Linear) → has_aggregate t ≡ false → sums_of b z t e st ≡ st
    no-parts (variable n) z e st h = refl
    no-parts (integer y) z e st h = refl
    no-parts (constructed ty n) z e st h = refl
    no-parts (application s ts) z e st h = refl
    no-parts (summation ss) z e st h = no-operand-parts ss z e st h
    no-parts (product ts) z e st h =
        ap (λ c. if c then sums_of_factors b (z *ℤ integer_factor ts) ts e st else st) h
    no-parts (aggregate k bs f t) z e st h = absurd cc

    no-operand-parts : (ss : SummandTrees) (z : ℤ) (e : List Elem) (st : Linear) → sum_has_aggregate ss ≡ false
        → sums_of_summands b z ss e st ≡ st
    no-operand-parts no_summands z e st h = refl
    no-operand-parts (more_summands minus t ss) z e st h =
        let both = neither (has_aggregate t) (sum_has_aggregate ss) h in
        ap (sums_of_summands b z ss e) (no-parts t (signed_of minus z) e st both.0)
        ∙ no-operand-parts ss z e st both.1

  no-factor-parts : (ts : TermTrees) (z : ℤ) (e : List Elem) (st : Linear) → have_aggregates ts ≡ false
      → sums_of_factors b z ts e st ≡ st
  no-factor-parts no_terms z e st h = refl
  no-factor-parts (more_terms t ts) z e st h =
      let both = neither (has_aggregate t) (have_aggregates ts) h in
      ap (sums_of_factors b z ts e) (no-parts t z e st both.0) ∙ no-factor-parts ts z e st both.1

-- the next sum, with what was before
sum-after : (z : ℤ) (minus : Bool) (y c s : ℤ)
    → (y +ℤ signed_of minus z *ℤ c) +ℤ z *ℤ s ≡ y +ℤ z *ℤ (signed_of minus c +ℤ s)
sum-after z minus y c s =
    let e = signed-times minus z c in let f = times-plus z (signed_of minus c) s in omega (arith, ints, e, f)

factor-after : (z y c s : ℤ) → (y +ℤ z *ℤ c) +ℤ z *ℤ s ≡ y +ℤ z *ℤ (c +ℤ s)
factor-after z y c s = let f = times-plus z c s in omega (arith, ints, f)

scaled : (z y f c : ℤ) → y +ℤ (z *ℤ f) *ℤ c ≡ y +ℤ z *ℤ (f *ℤ c)
scaled z y f c = ap (λ x. y +ℤ x) (times-assoc z f c)

unscaled : (z y f c : ℤ) → c ≡ pos 0 → y ≡ y +ℤ z *ℤ (f *ℤ c)
unscaled z y f c none =
    let e = ap (λ x. z *ℤ (f *ℤ x)) none ∙ ap (λ x. z *ℤ x) (times-zero f) ∙ times-zero z in omega (arith, ints, e)

nothing-more : (z y c : ℤ) → c ≡ pos 0 → y ≡ y +ℤ z *ℤ c
nothing-more z y c none = let e = ap (λ x. z *ℤ x) none ∙ times-zero z in omega (arith, ints, e)

last-factor : (z y c s : ℤ) → s ≡ pos 0 → y +ℤ z *ℤ c ≡ y +ℤ z *ℤ (c +ℤ s)
last-factor z y c s none = let same : c ≡ c +ℤ s = omega (arith, ints, none) in ap (λ x. y +ℤ z *ℤ x) same

first-factor : (z y c s : ℤ) → c ≡ pos 0 → y +ℤ z *ℤ s ≡ y +ℤ z *ℤ (c +ℤ s)
first-factor z y c s none = let same : s ≡ c +ℤ s = omega (arith, ints, none) in ap (λ x. y +ℤ z *ℤ x) same

difference : (x y : ℤ) → (pos 0 +ℤ pos 1 *ℤ x) +ℤ neg_ℤ (pos 1) *ℤ y ≡ x -ℤ y
difference x y =
    let e = one-times x in
    let f = neg-times (pos 1) y in
    let g = one-times y in omega (arith, ints, e, f, g)

-- ---- number quantifiers

-- how many instances are true
counted-instances : (T : List Elem → Bool) (as' : List (List Elem))
    → pos (count_by T as') ≡ weight_sum T (λ a. pos 1) as'
counted-instances T [] = refl
counted-instances T (a ∷ as') =
    ap pos (sum_by-cons (λ c. cond (T c) 1 0) a as') ∙ by_truth (T a) (counted-instances T as')
  where
    by_truth : (c : Bool) → pos (count_by T as') ≡ weight_sum T (λ a. pos 1) as'
        → pos (cond c 1 0 + count_by T as') ≡ (if c then pos 1 else pos 0) +ℤ weight_sum T (λ a. pos 1) as'
    by_truth true e = omega (arith, ints, e)
    by_truth false e = omega (arith, ints, e)

module _ (b : GroundBase) where
  -- each of these instances is right
  abbrev FormsAreRight : FormulaTree → List Elem → List (List Elem) → Type 0
  FormsAreRight f e as' =
      (a : List Elem) → Has as' a → (p : ProblemState) → IsProblem p → HasAtoms b p → HasRoom b p
      → Means p (form_of b f (e ++ a) p).problem (form_of b f (e ++ a) p).answer
      (λ v. truth_of (structure_of b v) f (e ++ a))

  each-right : (all : Bool) (f : FormulaTree) (e : List Elem) (as' : List (List Elem)) → FormsAreRight f e as'
      → (ls : List Lit) (p : ProblemState) → IsProblem p → HasAtoms b p → HasRoom b p
      → AreLitsOf p.vars ls
      → (let r = parts_each (λ a q. form_of b f (e ++ a) q) all as' ls p in
      PartsMean p r.problem all ls r.lits r.settled
      (λ v. each-truth all (λ a. truth_of (structure_of b v) f (e ++ a)) as'))
  each-right all f e [] right ls p fine at room within =
      none-left p all ls (λ v. each-truth all (λ a. truth_of (structure_of b v) f (e ++ a)) []) fine within
      (λ v. each-none all (λ a. truth_of (structure_of b v) f (e ++ a)))
  each-right all f e (a ∷ as') right ls p fine at room within =
      let G : List Elem → ProblemState → GroundResult = λ a q. form_of b f (e ++ a) q in
      let g = form_of b f (e ++ a) p in
      let one = right a (inl refl) p fine at room in
      next-right p g all ls (λ xs q. parts_each G all as' xs q)
      (λ v. truth_of (structure_of b v) f (e ++ a))
      (λ v. each-truth all (λ a. truth_of (structure_of b v) f (e ++ a)) as')
      (λ v. each-truth all (λ a. truth_of (structure_of b v) f (e ++ a)) (a ∷ as'))
      (λ v. each-more all (λ a. truth_of (structure_of b v) f (e ++ a)) a as') within one
      (each-right all f e as' (λ c m. right c (inr m)) (with_answer g.answer ls) g.problem one.fine
      (has-atoms b p g.problem one.more at) (has-room b p g.problem one.more room)
      (taken-fine p g ls (λ v. truth_of (structure_of b v) f (e ++ a)) within one))

  instances-of : (f : FormulaTree) (bs : List Bound) (e : List Elem)
      → AllByRecursion (λ a. IsGroundForm b f (e ++ a)) (choices b.domains bs)
      → ((a : List Elem) → IsGroundForm b f (e ++ a) → (p : ProblemState) → IsProblem p → HasAtoms b p → HasRoom b p
      → Means p (form_of b f (e ++ a) p).problem (form_of b f (e ++ a) p).answer
      (λ v. truth_of (structure_of b v) f (e ++ a)))
      → FormsAreRight f e (choices b.domains bs)
  instances-of f bs e h right a m =
      right a (all-has (λ a. IsGroundForm b f (e ++ a)) (choices b.domains bs) a h m)

  -- so it is after whatever came before
  after-right : (f : FormulaTree) (bs : List Bound) (e : List Elem) → FormsAreRight f e (choices b.domains bs)
      → (p : ProblemState) (at : HasAtoms b p) (room : HasRoom b p) → AreRight b p at room bs f e
  after-right f bs e right p at room a m q fine more =
      right a m q fine (has-atoms b p q more at) (has-room b p q more room)

  -- a number quantifier
  number-right : (c : Cmp) (n : ℤ) (bs : List Bound) (f : FormulaTree) (e : List Elem)
      → FormsAreRight f e (choices b.domains bs) → (p : ProblemState) → IsProblem p → HasAtoms b p → HasRoom b p
      → (let g = form_of b (numbered c n bs f) e p in
      Means p g.problem g.answer (λ v. truth_of (structure_of b v) (numbered c n bs f) e))
  number-right c n bs f e right p fine at room =
      let F : List Elem → ProblemState → GroundResult = λ a q. form_of b f (e ++ a) q in
      let T : (ℕ → Bool) → List Elem → Bool = λ v a. truth_of (structure_of b v) f (e ++ a) in
      let W : (ℕ → Bool) → List Elem → ℤ = λ v a. pos 1 in
      let as' = choices b.domains bs in
      let st = fold (instance_step kind.Count (pos 1) F (λ a. [])) (no_parts_yet p) as' in
      let made = instances-come kind.Count (pos 1) p F (λ a. []) T W as'
      (λ a m. record { right = after-right f bs e right p at room a m; weight = tt }) (no_parts_yet p)
      (λ v. number (pos 0)) (start-comes kind.Count p fine) in
      comes-compared kind.Count c p st (λ v. number (pos (count_by (T v) as'))) n
      (comes-is kind.Count p st (λ v. joined_values kind.Count (pos 1) (T v) (W v) (number (pos 0)) as')
      (λ v. number (pos (count_by (T v) as')))
      (λ v s. joined-sum kind.Count (pos 1) (T v) (W v) (pos 0) as' tt ∙ ap number (once (count-is v as'))) made)
    where
      count-is : (v : ℕ → Bool) (as' : List (List Elem))
          → pos (count_by (λ a. truth_of (structure_of b v) f (e ++ a)) as')
          ≡ weight_sum (λ a. truth_of (structure_of b v) f (e ++ a)) (λ a. pos 1) as'
      count-is v as' = counted-instances (λ a. truth_of (structure_of b v) f (e ++ a)) as'

      once : {x y : ℤ} → y ≡ x → pos 0 +ℤ pos 1 *ℤ x ≡ y
      once {x} {y} h = let e = one-times x in omega (arith, ints, e, h)

  -- what is said of a side: as a minimum or a maximum, and as an operand of a sum
  abbrev ComesAsExtreme : TermTree → List Elem → ProblemState → Type 0
  ComesAsExtreme x e p =
      (k : AggKind) → extreme_of x ≡ Some k
      → Comes k p (sums_of b (pos 1) x e (no_parts_yet p)) (λ v. value_of (structure_of b v) x e)

  abbrev ComesAsSum : TermTree → List Elem → ProblemState → Type 0
  ComesAsSum x e p =
      (z : ℤ) (st : Linear) (V : (ℕ → Bool) → ℤ) → IsAddend b x e → Comes kind.Sum p st (λ v. number (V v))
      → Comes kind.Sum p (sums_of b z x e st) (λ v. number (V v +ℤ z *ℤ counted_in (structure_of b v) x e))

  -- a comparison of sides with aggregates
  sides-right : (c : Cmp) (x y : TermTree) (e : List Elem) (p : ProblemState)
      → IsGroundSide b (has_aggregate y) x e → IsGroundSide b (has_aggregate x) y e → IsProblem p → HasAtoms b p
      → HasRoom b p → ComesAsExtreme x e p → ComesAsExtreme y e p → ComesAsSum x e p → ComesAsSum y e p
      → Means p (sides_of b c x y e p).problem (sides_of b c x y e p).answer
      (λ v. truth_of (structure_of b v) (comparison c x y) e)
  sides-right c x y e p hx hy fine at room extreme-x extreme-y sum-x sum-y =
      let left = sums_of b (pos 1) x e (no_parts_yet p) in
      let right = sums_of b (pos 1) y e (no_parts_yet p) in
      let both = sums_of b (neg_ℤ (pos 1)) y e left in
      let split : (t : TermTree) (other : Bool) → extreme_of t ≡ None → IsGroundSide b other t e
      → IsSplit b p at room c x y e t =
      λ t other none h v over. addend-splits b v over t e (adding-side b other t e none h) in
      compared-right b p at room c x y e (extreme_of x) (extreme_of y) left right both
      (λ k is.
      let plain = extreme-alone b x (has_aggregate y) e k is hx in
      (extreme-x k is, plain, split y (has_aggregate x) (plain-extreme y plain) hy))
      (λ k is.
      let plain = extreme-alone b y (has_aggregate x) e k is hy in
      (extreme-y k is, plain, split x (has_aggregate y) (plain-extreme x plain) hx))
      (λ no nor.
      let cx : (ℕ → Bool) → ℤ = λ v. counted_in (structure_of b v) x e in
      let cy : (ℕ → Bool) → ℤ = λ v. counted_in (structure_of b v) y e in
      let one = sum-x (pos 1) (no_parts_yet p) (λ v. pos 0) (adding-side b (has_aggregate y) x e no hx)
      (start-comes kind.Sum p fine) in
      let two = sum-y (neg_ℤ (pos 1)) left (λ v. pos 0 +ℤ pos 1 *ℤ cx v)
      (adding-side b (has_aggregate x) y e nor hy) one in (
        comes-is kind.Sum p both (λ v. number ((pos 0 +ℤ pos 1 *ℤ cx v) +ℤ neg_ℤ (pos 1) *ℤ cy v))
            (λ v. number (cx v -ℤ cy v)) (λ v s. ap number (difference (cx v) (cy v))) two,
        split x (has_aggregate y) no hx,
        split y (has_aggregate x) nor hy,
      ))

  mutual
    pub form-right : (f : FormulaTree) (e : List Elem) (p : ProblemState) → IsGroundForm b f e → IsProblem p
        → HasAtoms b p → HasRoom b p → Means p (form_of b f e p).problem (form_of b f e p).answer
        (λ v. truth_of (structure_of b v) f e)
    form-right verum e p h fine at room = constant-right p true (λ v. true) (λ v. refl) fine
    form-right falsum e p h fine at room = constant-right p false (λ v. false) (λ v. refl) fine
    form-right (disjunction fs) e p h fine at room =
        closed-right p false (parts_of b false fs e [] p) (λ v. any_true (structure_of b v) fs e)
        (parts-right false fs e [] p h fine at room (All-nil (IsLitOf p.vars)))
    form-right (implication f g) e p h fine at room =
        let x = form_of b f e p in
        let F : (ℕ → Bool) → Bool = λ v. truth_of (structure_of b v) f e in
        let G : (ℕ → Bool) → Bool = λ v. truth_of (structure_of b v) g e in
        let one = means-not p x F (form-right f e p h.0 fine at room) in
        let xs = with_answer (opposite_of x.answer) [] in
        let within = taken-fine p (opposite_result x) [] (λ v. not (F v)) (All-nil (IsLitOf p.vars)) one in
        let two = form-right g e x.problem h.1 one.fine (has-atoms b p x.problem one.more at)
        (has-room b p x.problem one.more room) in
        let y = form_of b g e x.problem in
        closed-right p false (next_parts false (opposite_result x) []
        (λ xs q. next_parts false (form_of b g e q) xs no_more_parts)) (λ v. not (F v) || G v)
        (next-right p (opposite_result x) false [] (λ xs q. next_parts false (form_of b g e q) xs no_more_parts)
        (λ v. not (F v)) G (λ v. not (F v) || G v) (λ v. refl) (All-nil (IsLitOf p.vars)) one
        (next-right x.problem y false xs no_more_parts G (λ v. false) G (λ v. sym (or-false (G v))) within two
        (none-left y.problem false (with_answer y.answer xs) (λ v. false) two.fine
        (taken-fine x.problem y xs G within two) (λ v. refl))))
    form-right (equivalence f g) e p h fine at room =
        let x = form_of b f e p in
        let one = form-right f e p h.0 fine at room in
        let y = form_of b g e x.problem in
        let two = form-right g e x.problem h.1 one.fine (has-atoms b p x.problem one.more at)
        (has-room b p x.problem one.more room) in
        iff-right p x.problem y.problem x.answer y.answer (λ v. truth_of (structure_of b v) f e)
        (λ v. truth_of (structure_of b v) g e) one two
    form-right (existential bs f) e p h fine at room =
        closed-right p false (parts_each (λ a q. form_of b f (e ++ a) q) false (choices b.domains bs) [] p)
        (λ v. list_any (λ a. truth_of (structure_of b v) f (e ++ a)) (choices b.domains bs))
        (each-right false f e (choices b.domains bs)
        (instances-of f bs e h (λ a g q fine at room. form-right f (e ++ a) q g fine at room)) [] p fine at
        room (All-nil (IsLitOf p.vars)))
    form-right (atom s ts) e p h fine at room = atom-right s ts b e p fine at room h
    form-right (comparison c x y) e p (inl h) fine at room =
        let plain = both-false (has_aggregate x) (has_aggregate y) (ground-plain b x h.0) (ground-plain b y h.1) in
        means-if p (has_aggregate x || has_aggregate y) (sides_of b c x y e p)
        (comparison_of c (rows_of_term b x e) (rows_of_term b y e) p)
        (λ v. truth_of (structure_of b v) (comparison c x y) e)
        (λ is. absurd (not-both (has_aggregate x || has_aggregate y) is plain))
        (λ none. comparison-right c x y b e p fine at room h)
    form-right (comparison c x y) e p (inr h) fine at room =
        means-if p (has_aggregate x || has_aggregate y) (sides_of b c x y e p)
        (comparison_of c (rows_of_term b x e) (rows_of_term b y e) p)
        (λ v. truth_of (structure_of b v) (comparison c x y) e)
        (λ is. sides-right c x y e p h.1 h.2 fine at room
        (λ k is. extreme-right x (has_aggregate y) e p k is h.1 fine at room)
        (λ k is. extreme-right y (has_aggregate x) e p k is h.2 fine at room)
        (λ z st V a made. sums-right x e z p st V a at room made)
        (λ z st V a made. sums-right y e z p st V a at room made))
        (λ none. absurd (not-both (has_aggregate x || has_aggregate y) h.0 none))
    form-right (negation f) e p h fine at room =
        means-not p (form_of b f e p) (λ v. truth_of (structure_of b v) f e) (form-right f e p h fine at room)
    form-right (conjunction fs) e p h fine at room =
        closed-right p true (parts_of b true fs e [] p) (λ v. all_true (structure_of b v) fs e)
        (parts-right true fs e [] p h fine at room (All-nil (IsLitOf p.vars)))
    form-right (universal bs f) e p h fine at room =
        closed-right p true (parts_each (λ a q. form_of b f (e ++ a) q) true (choices b.domains bs) [] p)
        (λ v. list_all (λ a. truth_of (structure_of b v) f (e ++ a)) (choices b.domains bs))
        (each-right true f e (choices b.domains bs)
        (instances-of f bs e h (λ a g q fine at room. form-right f (e ++ a) q g fine at room)) [] p fine at
        room (All-nil (IsLitOf p.vars)))
    form-right (numbered c n bs f) e p h fine at room =
        number-right c n bs f e
        (instances-of f bs e h (λ a g q fine at room. form-right f (e ++ a) q g fine at room)) p fine at room

    parts-right : (all : Bool) (fs : FormulaTrees) (e : List Elem) (ls : List Lit) (p : ProblemState)
        → AreGroundForms b fs e → IsProblem p → HasAtoms b p → HasRoom b p → AreLitsOf p.vars ls
        → (let r = parts_of b all fs e ls p in
        PartsMean p r.problem all ls r.lits r.settled (λ v. parts-truth all (structure_of b v) fs e))
    parts-right all no_formulas e ls p h fine at room within =
        none-left p all ls (λ v. parts-truth all (structure_of b v) no_formulas e) fine within
        (λ v. parts-none all (structure_of b v) e)
    parts-right all (more_formulas f fs) e ls p h fine at room within =
        let g = form_of b f e p in
        let one = form-right f e p h.0 fine at room in
        next-right p g all ls (λ xs q. parts_of b all fs e xs q) (λ v. truth_of (structure_of b v) f e)
        (λ v. parts-truth all (structure_of b v) fs e) (λ v. parts-truth all (structure_of b v) (more_formulas f fs) e)
        (λ v. parts-more all (structure_of b v) f fs e) within one
        (parts-right all fs e (with_answer g.answer ls) g.problem h.1 one.fine (has-atoms b p g.problem one.more at)
        (has-room b p g.problem one.more room) (taken-fine p g ls (λ v. truth_of (structure_of b v) f e) within one))

    -- a minimum or a maximum as a whole side
    pub extreme-right : (x : TermTree) (other : Bool) (e : List Elem) (p : ProblemState) (k : AggKind)
        → extreme_of x ≡ Some k → IsGroundSide b other x e → IsProblem p → HasAtoms b p → HasRoom b p
        → Comes k p (sums_of b (pos 1) x e (no_parts_yet p)) (λ v. value_of (structure_of b v) x e)
    extreme-right (variable n) other e p k is h fine at room = absurd cc
    extreme-right (integer z) other e p k is h fine at room = absurd cc
    extreme-right (constructed ty n) other e p k is h fine at room = absurd cc
    extreme-right (application s ts) other e p k is h fine at room = absurd cc
    extreme-right (summation ss) other e p k is h fine at room = absurd cc
    extreme-right (product ts) other e p k is h fine at room = absurd cc
    extreme-right (aggregate kind.Count bs f t) other e p k is h fine at room = absurd cc
    extreme-right (aggregate kind.Sum bs f t) other e p k is h fine at room = absurd cc
    extreme-right (aggregate kind.Min bs f t) other e p k is h fine at room =
        let same : kind.Min ≡ k = cc in
        subst (λ k. Comes k p (sums_of b (pos 1) (aggregate kind.Min bs f t) e (no_parts_yet p))
        (λ v. value_of (structure_of b v) (aggregate kind.Min bs f t) e)) same
        (extreme-comes b p at room kind.Min bs f t e fine tt
        (after-right f bs e
        (instances-of f bs e h.1 (λ a g q fine at room. form-right f (e ++ a) q g fine at room)) p at room)
        h.2)
    extreme-right (aggregate kind.Max bs f t) other e p k is h fine at room =
        let same : kind.Max ≡ k = cc in
        subst (λ k. Comes k p (sums_of b (pos 1) (aggregate kind.Max bs f t) e (no_parts_yet p))
        (λ v. value_of (structure_of b v) (aggregate kind.Max bs f t) e)) same
        (extreme-comes b p at room kind.Max bs f t e fine tt
        (after-right f bs e
        (instances-of f bs e h.1 (λ a g q fine at room. form-right f (e ++ a) q g fine at room)) p at room)
        h.2)

    -- an operand of a sum adds what its aggregates come to, times the factor
    pub sums-right : (x : TermTree) (e : List Elem) (z : ℤ) (p : ProblemState) (st : Linear) (V : (ℕ → Bool) → ℤ)
        → IsAddend b x e → HasAtoms b p → HasRoom b p → Comes kind.Sum p st (λ v. number (V v))
        → Comes kind.Sum p (sums_of b z x e st) (λ v. number (V v +ℤ z *ℤ counted_in (structure_of b v) x e))
    sums-right (variable n) e z p st V a at room h =
        comes-is kind.Sum p st (λ v. number (V v)) (λ v. number (V v +ℤ z *ℤ pos 0))
        (λ v s. ap number (nothing-more z (V v) (pos 0) refl)) h
    sums-right (integer y) e z p st V a at room h =
        comes-is kind.Sum p st (λ v. number (V v)) (λ v. number (V v +ℤ z *ℤ pos 0))
        (λ v s. ap number (nothing-more z (V v) (pos 0) refl)) h
    sums-right (constructed ty n) e z p st V a at room h =
        comes-is kind.Sum p st (λ v. number (V v)) (λ v. number (V v +ℤ z *ℤ pos 0))
        (λ v s. ap number (nothing-more z (V v) (pos 0) refl)) h
    sums-right (application s ts) e z p st V a at room h =
        comes-is kind.Sum p st (λ v. number (V v)) (λ v. number (V v +ℤ z *ℤ pos 0))
        (λ v s. ap number (nothing-more z (V v) (pos 0) refl)) h
    sums-right (summation ss) e z p st V a at room h = operands-right ss e z p st V a at room h
    sums-right (product ts) e z p st V (inl plain) at room h =
        let none = grounds-plain b ts plain.term in
        comes-if p (have_aggregates ts) (sums_of_factors b (z *ℤ integer_factor ts) ts e st) st
        (λ v. V v +ℤ z *ℤ counted_in (structure_of b v) (product ts) e)
        (λ is. absurd (not-both (have_aggregates ts) is none))
        (λ is. comes-is kind.Sum p st (λ v. number (V v))
        (λ v. number (V v +ℤ z *ℤ counted_in (structure_of b v) (product ts) e))
        (λ v s. ap number (unscaled z (V v) (integer_factor ts) (counted_factors (structure_of b v) ts e)
        (no-factor-counted (structure_of b v) ts e none))) h)
    sums-right (product ts) e z p st V (inr one) at room h =
        let F = integer_factor ts in
        let next = sums_of_factors b (z *ℤ F) ts e st in
        comes-if p (have_aggregates ts) next st
        (λ v. V v +ℤ z *ℤ counted_in (structure_of b v) (product ts) e)
        (λ is. comes-is kind.Sum p next
        (λ v. number (V v +ℤ (z *ℤ F) *ℤ counted_factors (structure_of b v) ts e))
        (λ v. number (V v +ℤ z *ℤ counted_in (structure_of b v) (product ts) e))
        (λ v s. ap number (scaled z (V v) F (counted_factors (structure_of b v) ts e)))
        (factors-right ts e (z *ℤ F) p st V one at room h))
        (λ none. comes-is kind.Sum p st (λ v. number (V v))
        (λ v. number (V v +ℤ z *ℤ counted_in (structure_of b v) (product ts) e))
        (λ v s. ap number (unscaled z (V v) F (counted_factors (structure_of b v) ts e)
        (no-factor-counted (structure_of b v) ts e none))) h)
    sums-right (aggregate k bs f t) e z p st V a at room h =
        adding-comes b p at room k z bs f t e a.0
        (after-right f bs e
        (instances-of f bs e a.1 (λ c g q fine at room. form-right f (e ++ c) q g fine at room)) p at room)
        a.2 st V h

    operands-right : (ss : SummandTrees) (e : List Elem) (z : ℤ) (p : ProblemState) (st : Linear) (V : (ℕ → Bool) → ℤ)
        → AreGroundAddends b ss e → HasAtoms b p → HasRoom b p → Comes kind.Sum p st (λ v. number (V v))
        → Comes kind.Sum p (sums_of_summands b z ss e st)
        (λ v. number (V v +ℤ z *ℤ counted_summands (structure_of b v) ss e))
    operands-right no_summands e z p st V a at room h =
        comes-is kind.Sum p st (λ v. number (V v)) (λ v. number (V v +ℤ z *ℤ pos 0))
        (λ v s. ap number (nothing-more z (V v) (pos 0) refl)) h
    operands-right (more_summands minus t ss) e z p st V a at room h =
        let next = sums_of b (signed_of minus z) t e st in
        let c : (ℕ → Bool) → ℤ = λ v. counted_in (structure_of b v) t e in
        let one = sums-right t e (signed_of minus z) p st V a.0 at room h in
        let rest = operands-right ss e z p next (λ v. V v +ℤ signed_of minus z *ℤ c v) a.1 at room one in
        comes-is kind.Sum p (sums_of_summands b z ss e next)
        (λ v. number ((V v +ℤ signed_of minus z *ℤ c v) +ℤ z *ℤ counted_summands (structure_of b v) ss e))
        (λ v. number (V v +ℤ z *ℤ counted_summands (structure_of b v) (more_summands minus t ss) e))
        (λ v s. ap number (sum-after z minus (V v) (c v) (counted_summands (structure_of b v) ss e))) rest

    factors-right : (ts : TermTrees) (e : List Elem) (z : ℤ) (p : ProblemState) (st : Linear) (V : (ℕ → Bool) → ℤ)
        → IsOneAddend b ts e → HasAtoms b p → HasRoom b p → Comes kind.Sum p st (λ v. number (V v))
        → Comes kind.Sum p (sums_of_factors b z ts e st)
        (λ v. number (V v +ℤ z *ℤ counted_factors (structure_of b v) ts e))
    factors-right no_terms e z p st V a at room h = absurd a
    factors-right (more_terms t ts) e z p st V (inl a) at room h =
        let next = sums_of b z t e st in
        let c : (ℕ → Bool) → ℤ = λ v. counted_in (structure_of b v) t e in
        let plain = integers-plain ts a.1 in
        let one = sums-right t e z p st V a.0 at room h in
        subst (λ (x : Linear). Comes kind.Sum p x
        (λ v. number (V v +ℤ z *ℤ counted_factors (structure_of b v) (more_terms t ts) e)))
        (sym (no-factor-parts b ts z e next plain))
        (comes-is kind.Sum p next (λ v. number (V v +ℤ z *ℤ c v))
        (λ v. number (V v +ℤ z *ℤ counted_factors (structure_of b v) (more_terms t ts) e))
        (λ v s. ap number (last-factor z (V v) (c v) (counted_factors (structure_of b v) ts e)
        (no-factor-counted (structure_of b v) ts e plain))) one)
    factors-right (more_terms t ts) e z p st V (inr a) at room h =
        let plain = integer-plain t a.0 in
        let rest = factors-right ts e z p st V a.1 at room h in
        subst (λ (x : Linear). Comes kind.Sum p (sums_of_factors b z ts e x)
        (λ v. number (V v +ℤ z *ℤ counted_factors (structure_of b v) (more_terms t ts) e)))
        (sym (no-parts b t z e st plain))
        (comes-is kind.Sum p (sums_of_factors b z ts e st)
        (λ v. number (V v +ℤ z *ℤ counted_factors (structure_of b v) ts e))
        (λ v. number (V v +ℤ z *ℤ counted_factors (structure_of b v) (more_terms t ts) e))
        (λ v s. ap number (first-factor z (V v) (counted_in (structure_of b v) t e)
        (counted_factors (structure_of b v) ts e) (nothing-counted (structure_of b v) t e plain))) rest)

pub form-is-right : FormIsRight
form-is-right b f e p fine at room h = form-right b f e p h fine at room
