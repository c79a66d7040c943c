-- Steps over aggregates and their instances.
use Rattle.std.proofs.Common.{◌≡◌, ℤ, pos, neg_ℤ, List, [], ◌∷◌, ◌++◌, length, Bool, true, false, ◌||◌, ◌==◌, Option}
use Rattle.std.proofs.Common.{Some, None, if◌then◌else◌, Vec, append-nil, ap, subst, arith, rules}
use Rattle.std.specs.List.{AllByRecursion}
use Rattle.std.proofs.lemmas.Bool.{eqb-true}
use Rattle.std.specs.declared.alloc.Global.{Global}
use Rattle.std.specs.declared.boxed.Box.{Box}
use Rattle.kb_logic.specs.declared.elements.Elem.{Elem}
use Rattle.kb_logic.specs.declared.syntax.AggKind.{AggKind}
use Rattle.kb_logic.specs.declared.syntax.Cmp.{Cmp}
use Rattle.kb_logic.specs.declared.syntax.Formula.{Formula, Compare, Number, the_lemmas}
use Rattle.kb_logic.specs.declared.syntax.Term.{Term, Agg}
use Rattle.kb_logic.specs.declared.vocabularies.Bound.{Bound}
use Rattle.kb_logic.specs.Denotations.{Denotation}
use Rattle.kb_logic.specs.Structures.{choices}
use Rattle.kb_logic.specs.Trees.{FormulaTree, TermTree, comparison, numbered, aggregate}
use Rattle.kb_logic.specs.Views.{formula_view, term_view}
use Rattle.lit_core.specs.declared.literals.Lit.{Lit}
use Rattle.ground_core.specs.Problems.{ProblemState, ArePartsOf}
use Rattle.term_values.specs.GroundBases.{GroundBase}
use Rattle.term_values.specs.Rows.{rows_of_term}
use Rattle.def_ground.specs.declared.linear.Linear.{Linear as LinearOfCode}
use Rattle.def_ground.specs.Answers.{GroundResult}
use Rattle.def_ground.specs.Counting.{has_aggregate, extreme_of}
use Rattle.def_ground.specs.Forms.{form_of, sums_of, no_parts_yet, compared_sides}
use Rattle.def_ground.specs.Linear.{Linear}
use Rattle.def_ground.specs.LinearViews.{linear_view}
use Rattle.def_ground.specs.Thresholds.{compared_with_rows, flipped}
use Rattle.ground_walk.specs.declared.counting.Sides.TheVariants.{LeftExtreme, RightExtreme}
use Rattle.ground_walk.specs.Groundable.{IsGroundable}
use Rattle.ground_walk.specs.Sides.{sides_by, sides_between}
use Rattle.ground_walk.specs.Weighing.{InstanceFits}

-- ---- trees

pub term_view-Agg : (k : AggKind) (bs : Vec Bound Global) (f : Box Formula Global) (t : Box Term Global)
    → term_view (Agg k bs f t) ≡ aggregate k bs.items (formula_view f.value) (term_view t.value)
term_view-Agg k bs f t = search (rules, the_lemmas)

pub formula_view-Compare : (c : Cmp) (x y : Term)
    → formula_view (Compare c x y) ≡ comparison c (term_view x) (term_view y)
formula_view-Compare c x y = search (rules, the_lemmas)

pub formula_view-Number : (c : Cmp) (n : ℤ) (bs : Vec Bound Global) (f : Box Formula Global)
    → formula_view (Number c n bs f) ≡ numbered c n bs.items (formula_view f.value)
formula_view-Number c n bs f = search (rules, the_lemmas)

-- ---- the start

-- no part yet is over the variables of any problem
pub none-within : (l : LinearOfCode) → ((p : ProblemState) → linear_view l p ≡ no_parts_yet p) → (p : ProblemState)
    → ArePartsOf p.vars l.parts
none-within l is p =
    let none = ap (λ (st : Linear). length st.parts) (is p) in λ k d lt. absurd (omega (arith, lt, none))

-- an instance that is counted has no weight
pub unweighed : (b : GroundBase) (f : FormulaTree) (e : List Elem) (xs : List (List Elem))
    → AllByRecursion (λ a. IsGroundable b f (e ++ a)) xs → AllByRecursion (λ a. InstanceFits b f None (e ++ a)) xs
unweighed b f e [] h = tt
unweighed b f e (a ∷ xs) h = ((h.0, tt), unweighed b f e xs h.1)

-- without variables there is one assignment, which adds nothing
pub at-once : (domains : List (List Elem)) (bs : List Bound) (Q : List Elem → Type 0) (e : List Elem)
    → (length bs == 0) ≡ true → AllByRecursion (λ a. Q (e ++ a)) (choices domains bs) → Q e
at-once domains [] Q e none h = subst Q (append-nil e) h.0
at-once domains (x ∷ bs) Q e none h = absurd (omega (arith, eqb-true (length (x ∷ bs)) 0 none))

-- ---- the sides of a comparison

module _ (b : GroundBase) (c : Cmp) (x y : TermTree) (e : List Elem) (p : ProblemState) where
  abbrev left : Linear
  left = sums_of b (pos 1) x e (no_parts_yet p)

  abbrev right : Linear
  right = sums_of b (pos 1) y e (no_parts_yet p)

  abbrev both : Linear
  both = sums_of b (neg_ℤ (pos 1)) y e left

  abbrev xs : List (List Lit × Denotation)
  xs = rows_of_term b x e

  abbrev ys : List (List Lit × Denotation)
  ys = rows_of_term b y e

  by-left : (other : GroundResult) (any : Bool) (l r : Option AggKind) (k : AggKind) → LeftExtreme k ≡ sides_by any l r
      → compared_with_rows k c left ys ≡ (if any then compared_sides l r c left right both xs ys else other)
  by-left other false l r k is = absurd cc
  by-left other true (Some j) r k is = let same : k ≡ j = cc in ap (λ i. compared_with_rows i c left ys) same
  by-left other true None (Some j) k is = absurd cc
  by-left other true None None k is = absurd cc

  by-right : (other : GroundResult) (any : Bool) (l r : Option AggKind) (k : AggKind)
      → RightExtreme k ≡ sides_by any l r
      → compared_with_rows k (flipped c) right xs
      ≡ (if any then compared_sides l r c left right both xs ys else other)
  by-right other false l r k is = absurd cc
  by-right other true (Some j) r k is = absurd cc
  by-right other true None (Some j) k is =
      let same : k ≡ j = cc in ap (λ i. compared_with_rows i (flipped c) right xs) same
  by-right other true None None k is = absurd cc

  pub left-extreme-is : (k : AggKind) → LeftExtreme k ≡ sides_between x y
      → compared_with_rows k c left ys ≡ form_of b (comparison c x y) e p
  left-extreme-is k is = by-left _ (has_aggregate x || has_aggregate y) (extreme_of x) (extreme_of y) k is

  pub right-extreme-is : (k : AggKind) → RightExtreme k ≡ sides_between x y
      → compared_with_rows k (flipped c) right xs ≡ form_of b (comparison c x y) e p
  right-extreme-is k is = by-right _ (has_aggregate x || has_aggregate y) (extreme_of x) (extreme_of y) k is
