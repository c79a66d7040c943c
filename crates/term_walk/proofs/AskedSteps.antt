-- Steps over the summands of a term that may be asked for, and over their rows.
use Rattle.std.proofs.Common.{◌≡◌, ℕ, zero, suc, ◌+◌, ◌<◌, ◌≤◌, ℤ, ◌+ℤ◌, ◌-ℤ◌, List, [], ◌∷◌, ◌++◌, map, drop, length}
use Rattle.std.proofs.Common.{Bool, true, false, Some, slice_get, get_or, FitsSigned, w64, to_z, of_z, refl, sym, ap}
use Rattle.std.proofs.Common.{subst, ◌∙◌, arith}
use Rattle.std.specs.Option.{option_map}
use Rattle.std.specs.List.{AllByRecursion}
use Rattle.std.proofs.lemmas.Int.{ints, to_z-of_z}
use Rattle.std.proofs.Common.{rules}
use Rattle.std.proofs.lemmas.List.{append_assoc, drop_more, map-append}
use Rattle.kb_logic.specs.Denotations.{Denotation}
use Rattle.kb_logic.specs.Meaning.{signed_of}
use Rattle.kb_logic.specs.declared.syntax.Formula.{the_lemmas}
use Rattle.kb_logic.specs.declared.syntax.Signed.{Signed}
use Rattle.kb_logic.specs.Trees.{TermTree, variable, integer, constructed, application, summation, product, aggregate}
use Rattle.kb_logic.specs.Trees.{SummandTrees, no_summands, more_summands, summands_of}
use Rattle.kb_logic.specs.Views.{signed_view, term_view}
use Rattle.lit_core.specs.declared.literals.Lit.{Lit}
use Rattle.ground_core.specs.Problems.{ProblemState}
use Rattle.term_values.specs.GroundBases.{GroundBase}
use Rattle.term_values.specs.KnownBases.{IsGroundBase}
use Rattle.term_values.specs.Rows.{rows_of_term}
use Rattle.def_ground.specs.AskedTerms.{summands_in, summands_of_term}
use Rattle.def_ground.specs.AskedTerms.{number_of, Summand, first_number, first_weight, differences, other_weights}
use Rattle.def_ground.specs.AskedTerms.{first_sum, WeightedParts, weigh, weigh_all}
use Rattle.def_ground.proofs.Leaves.{rows-more}
use Rattle.term_walk.specs.declared.terms.SummandRows.{SummandRows}
use Rattle.term_walk.specs.Askable.{summand_view, others_of, HasRowsIn, IsSmallNumber}
use Rattle.term_walk.specs.Askable.{StaysSmall}
use Rattle.ground_walk.specs.Groundable.{HasVars}
use Rattle.ground_walk.proofs.LeafSteps.{rows-in}

-- the summands that are left, the next one first
pub left-more : (xs : List SummandRows) (i : ℕ) (s : SummandRows) → i < length xs → s ≡ get_or xs i s
    → map summand_view (drop i xs) ≡ summand_view s ∷ map summand_view (drop (i + 1) xs)
left-more xs i s h is =
    ap (map summand_view) (drop_more xs i s h)
    ∙ ap (λ x. summand_view x ∷ map summand_view (drop (i + 1) xs)) (sym is)

signed-view-is : (s : Signed) → signed_view s ≡ (s.minus, term_view s.term)
signed-view-is s = search (rules, the_lemmas)

-- the operands that are left, the next one first
pub operands-left : (parts : List Signed) (i : ℕ) (s : Signed) → i < length parts → s ≡ get_or parts i s
    → summands_of (map signed_view (drop i parts))
    ≡ more_summands s.minus (term_view s.term) (summands_of (map signed_view (drop (i + 1) parts)))
operands-left parts i s h is =
    ap (λ ps. summands_of (map signed_view ps)) (drop_more parts i s h)
    ∙ ap (λ x. summands_of (signed_view x ∷ map signed_view (drop (i + 1) parts))) (sym is)
    ∙ ap (λ (v : Bool × TermTree). summands_of (v ∷ map signed_view (drop (i + 1) parts))) (signed-view-is s)

-- a summand more
pub next-operand : (b : GroundBase) (all left after : SummandTrees) (minus : Bool) (t : TermTree)
    (now next : List SummandRows) (x : SummandRows) → left ≡ more_summands minus t after → next ≡ now ++ x ∷ []
    → summand_view x ≡ record { minus = minus; rows = rows_of_term b t [] }
    → map summand_view now ++ summands_in b left ≡ summands_in b all
    → map summand_view next ++ summands_in b after ≡ summands_in b all
next-operand b all left after minus t now next x e made is same =
    ap (λ ss. map summand_view ss ++ summands_in b after) made
    ∙ ap (λ ss. ss ++ summands_in b after) (map-append summand_view now (x ∷ []))
    ∙ append_assoc (map summand_view now) (summand_view x ∷ []) (summands_in b after)
    ∙ ap (λ s. map summand_view now ++ s ∷ summands_in b after) is
    ∙ sym (ap (λ l. map summand_view now ++ summands_in b l) e) ∙ same

small-fits : (z : ℤ) → IsSmallNumber z → FitsSigned w64 z
small-fits z h = omega (arith, ints, h.0, h.1)

-- a small number as 64 bits
pub small-kept : (z : ℤ) → IsSmallNumber z → to_z w64 (of_z w64 z) ≡ z
small-kept z h = to_z-of_z w64 z (small-fits z h)

-- the first number of small ones is small
pub first-small : (rs : List (List Lit × Denotation)) → AllByRecursion (λ r. IsSmallNumber (number_of r.1)) rs
    → IsSmallNumber (first_number rs)
first-small [] h = (omega (arith, ints), omega (arith, ints))
first-small (r ∷ rs) h = h.0

pub signed-small : (minus : Bool) (z : ℤ) → IsSmallNumber z → IsSmallNumber (signed_of minus z)
signed-small true z h = (omega (arith, ints, h.1), omega (arith, ints, h.0))
signed-small false z h = h

-- the next summand of a sum
module _ (s : Summand) (left : List Summand) (z w total : ℤ) (own : w ≡ first_weight s.minus s.rows)
    (same : z +ℤ first_sum (s ∷ left) ≡ total) (sums : StaysSmall z (s ∷ left)) where
  abbrev y : ℤ
  y = to_z w64 (of_z w64 (z +ℤ to_z w64 (of_z w64 w)))

  module _ (small : IsSmallNumber w) where
    y-is : to_z w64 (of_z w64 (z +ℤ to_z w64 (of_z w64 w))) ≡ z +ℤ w
    y-is =
        let whole : IsSmallNumber (z +ℤ w) = subst (λ x. IsSmallNumber (z +ℤ x)) (sym own) sums.0 in
        ap (λ x. to_z w64 (of_z w64 (z +ℤ x))) (small-kept w small) ∙ small-kept (z +ℤ w) whole

    pub next-same : to_z w64 (of_z w64 (z +ℤ to_z w64 (of_z w64 w))) +ℤ first_sum left ≡ total
    next-same = let e = y-is in omega (arith, ints, e, own, same)

    pub next-sums : StaysSmall (to_z w64 (of_z w64 (z +ℤ to_z w64 (of_z w64 w)))) left
    next-sums = subst (λ x. StaysSmall x left) (sym (y-is ∙ ap (λ x. z +ℤ x) own)) sums.1

-- the value of the next row is small
pub value-small : (rs : List (List Lit × Denotation)) (k : ℕ) (x : Denotation)
    → option_map (λ r. r.1) (slice_get rs k) ≡ Some x
    → AllByRecursion (λ r. IsSmallNumber (number_of r.1)) (drop k rs) → IsSmallNumber (number_of x)
value-small [] k x e h = cc
value-small (r ∷ rs) zero x e h = let is : r.1 ≡ x = cc in subst (λ d. IsSmallNumber (number_of d)) is h.0
value-small (r ∷ rs) (suc k) x e h = value-small rs k x e h

-- a difference of small numbers, and one with a sign
module _ (n f : ℤ) (hn : IsSmallNumber n) (hf : IsSmallNumber f) where
  pub difference-kept : to_z w64 (of_z w64 (to_z w64 (of_z w64 n) -ℤ to_z w64 (of_z w64 f))) ≡ n -ℤ f
  difference-kept =
      let fits : FitsSigned w64 (n -ℤ f) = omega (arith, ints, hn.0, hn.1, hf.0, hf.1) in
      ap (λ x. to_z w64 (of_z w64 (x -ℤ to_z w64 (of_z w64 f)))) (small-kept n hn)
      ∙ ap (λ x. to_z w64 (of_z w64 (n -ℤ x))) (small-kept f hf) ∙ to_z-of_z w64 (n -ℤ f) fits

  pub weight-kept : (minus : Bool) → to_z w64 (of_z w64 (signed_of minus (n -ℤ f))) ≡ signed_of minus (n -ℤ f)
  weight-kept true = to_z-of_z w64 (signed_of true (n -ℤ f)) (omega (arith, ints, hn.0, hn.1, hf.0, hf.1))
  weight-kept false = to_z-of_z w64 (n -ℤ f) (omega (arith, ints, hn.0, hn.1, hf.0, hf.1))

-- the next row of a summand
pub next-row-same : (minus : Bool) (f w : ℤ) (g : List Lit) (x : Denotation) (left after : List (List Lit × Denotation))
    (st next whole : WeightedParts) → left ≡ (g, x) ∷ after → w ≡ signed_of minus (number_of x -ℤ f)
    → next ≡ weigh w g st → weigh_all (differences minus f left) st ≡ whole
    → weigh_all (differences minus f after) next ≡ whole
next-row-same minus f w g x left after st next whole e weight made same =
    ap (weigh_all (differences minus f after)) (made ∙ ap (λ y. weigh y g st) weight)
    ∙ sym (ap (λ rs. weigh_all (differences minus f rs) st) e) ∙ same

-- rows in two parts
weigh-both : (xs ys : List (List Lit × ℤ)) (st : WeightedParts)
    → weigh_all (xs ++ ys) st ≡ weigh_all ys (weigh_all xs st)
weigh-both [] ys st = refl
weigh-both (x ∷ xs) ys st = weigh-both xs ys (weigh x.1 x.0 st)

-- the next summand
pub next-summand-same : (s : Summand) (left after : List Summand) (st next whole : WeightedParts) → left ≡ s ∷ after
    → next ≡ weigh_all (other_weights s.minus s.rows) st → weigh_all (others_of left) st ≡ whole
    → weigh_all (others_of after) next ≡ whole
next-summand-same s left after st next whole e made same =
    ap (weigh_all (others_of after)) made ∙ sym (weigh-both (other_weights s.minus s.rows) (others_of after) st)
    ∙ sym (ap (λ ss. weigh_all (others_of ss) st) e) ∙ same

pub summands-more : (n m : ℕ) → n ≤ m → (ss : List Summand) → AllByRecursion (HasRowsIn n) ss
    → AllByRecursion (HasRowsIn m) ss
summands-more n m le [] h = tt
summands-more n m le (s ∷ ss) h = (rows-more n m le s.rows h.0, summands-more n m le ss h.1)

-- ---- the whole term

module _ (b : GroundBase) (p : ProblemState) (is : IsGroundBase b) (vars : HasVars b p) where
  operands-within : (ss : SummandTrees) → AllByRecursion (HasRowsIn p.vars) (summands_in b ss)
  operands-within no_summands = tt
  operands-within (more_summands minus t ss) = (rows-in b t [] p is vars, operands-within ss)

  -- the guards of a term's summands are over the problem's variables
  pub summands-within : (t : TermTree) → AllByRecursion (HasRowsIn p.vars) (summands_of_term b t)
  summands-within (variable n) = (rows-in b (variable n) [] p is vars, tt)
  summands-within (integer z) = (rows-in b (integer z) [] p is vars, tt)
  summands-within (constructed ty n) = (rows-in b (constructed ty n) [] p is vars, tt)
  summands-within (application s ts) = (rows-in b (application s ts) [] p is vars, tt)
  summands-within (summation ss) = operands-within ss
  summands-within (product ts) = (rows-in b (product ts) [] p is vars, tt)
  summands-within (aggregate k bs f t) = (rows-in b (aggregate k bs f t) [] p is vars, tt)
