-- The numbers of a term whose static bounds are small can be computed.
use Rattle.std.proofs.Common.{◌≡◌, ℤ, pos, ◌+ℤ◌, List, [], ◌∷◌, Bool, false, refl, sym, subst, arith}
use Rattle.std.specs.List.{list_any, AllByRecursion}
use Rattle.std.proofs.lemmas.Int.{ints}
use Rattle.kb_logic.specs.Bounds.{Interval, exactly, interval_sum, signed_interval, bounds_of, summand_bounds}
use Rattle.kb_logic.specs.Bounds.{front_bounds, IsSmall, IsWithin, ValueIsWithin, TermIsBounded, SummandsAreBounded}
use Rattle.kb_logic.specs.Denotations.{Denotation, number, named, minus_infinity, plus_infinity, undefined}
use Rattle.kb_logic.specs.Domains.{AreDomainsOf}
use Rattle.kb_logic.specs.Trees.{TermTree, variable, integer, constructed, application, summation, product, aggregate}
use Rattle.kb_logic.specs.Trees.{SummandTrees, no_summands, more_summands}
use Rattle.kb_logic.specs.Typing.{IsIntegerIn, TermIsTyped, OperandsAreTyped}
use Rattle.kb_logic.proofs.WithinBounds.{signed_within}
use Rattle.lit_core.specs.declared.literals.Lit.{Lit}
use Rattle.term_values.specs.GroundBases.{GroundBase}
use Rattle.term_values.specs.GroundTerms.{TermHasNoCounting}
use Rattle.term_values.specs.RowArithmetic.{RowsFit}
use Rattle.term_values.specs.Rows.{rows_of_term}
use Rattle.term_values.proofs.TypedLaws.{ground-term}
use Rattle.def_ground.specs.AskedTerms.{number_of, Summand, summands_in, alone, summands_of_term, is_rowless}
use Rattle.def_ground.specs.AskedTerms.{first_number, first_weight}
use Rattle.def_ground.proofs.AskedFew.{neither}
use Rattle.def_ground.proofs.AskedRanges.{bounded-small}
use Rattle.def_ground.specs.GroundForms.{IsSide, IsNumberRow}
use Rattle.def_ground.proofs.NumberTerms.{number-rows}
use Rattle.def_ground.proofs.TypedForms.{ground-side}
use Rattle.ground_walk.specs.Groundable.{AreInstancesGroundable}
use Rattle.term_walk.specs.Askable.{IsSmallNumber, HasSmallRows, StaysSmall, IsAskable}
use Rattle.ground_walk.proofs.BoundedRows.{HasAdding, OperandsHaveAdding, term-within, small-rows-fit}
use Rattle.ground_walk.proofs.GroundableLaws.{plain-adding, plain-instances, addend-adding, addends-adding}
use Rattle.ground_walk.proofs.GroundableLaws.{side-rows-fit, side-instances}

small-within : (i : Interval) (z : ℤ) → IsSmall i → IsWithin i z → IsSmallNumber z
small-within i z small h = (omega (arith, ints, small.0, h.low), omega (arith, ints, small.1, h.high))

number-small : (i : Interval) (d : Denotation) → IsSmall i → ValueIsWithin i d → IsSmallNumber (number_of d)
number-small i (number z) small h = small-within i z small h
number-small i (named n) small h = (omega (arith, ints), omega (arith, ints))
number-small i minus_infinity small h = (omega (arith, ints), omega (arith, ints))
number-small i plus_infinity small h = (omega (arith, ints), omega (arith, ints))
number-small i undefined small h = (omega (arith, ints), omega (arith, ints))

rows-small : (i : Interval) (rs : List (List Lit × Denotation)) → IsSmall i
    → AllByRecursion (λ r. ValueIsWithin i r.1) rs → AllByRecursion (λ r. IsSmallNumber (number_of r.1)) rs
rows-small i [] small h = tt
rows-small i (r ∷ rs) small h = (number-small i r.1 small h.0, rows-small i rs small h.1)

first-small : (rs : List (List Lit × Denotation)) → AllByRecursion (λ r. IsSmallNumber (number_of r.1)) rs
    → IsSmallNumber (first_number rs)
first-small [] h = (omega (arith, ints), omega (arith, ints))
first-small (r ∷ rs) h = h.0

first-within : (i : Interval) (rs : List (List Lit × Denotation)) → is_rowless rs ≡ false → AllByRecursion IsNumberRow rs
    → AllByRecursion (λ r. ValueIsWithin i r.1) rs → IsWithin i (first_number rs)
first-within i [] some numbers h = absurd cc
first-within i (r ∷ rs) some numbers h =
    subst (λ d. ValueIsWithin i d → IsWithin i (number_of d)) (sym numbers.0.1) (λ k. k) h.0

module _ (b : GroundBase) (given : AreDomainsOf b.vocabulary b.domains) where
  term-small : (minus : Bool) (t : TermTree) → HasAdding t → TermIsBounded b.vocabulary b.domains t []
      → HasSmallRows (record { minus = minus; rows = rows_of_term b t [] })
  term-small minus t adding bounded =
      rows-small (bounds_of b.vocabulary b.domains t []) (rows_of_term b t [])
      (bounded-small b.vocabulary b.domains t [] bounded) (term-within b [] [] tt t adding)

  sum-small : (ss : SummandTrees) → OperandsHaveAdding ss → SummandsAreBounded b.vocabulary b.domains ss []
      → AllByRecursion HasSmallRows (summands_in b ss)
  sum-small no_summands adding bounded = tt
  sum-small (more_summands minus t ss) adding bounded =
      (term-small minus t adding.0 bounded.0, sum-small ss adding.1 bounded.1)

  -- the first numbers of no summand but one, and of the operands of a sum
  alone-stays : (t : TermTree) → HasSmallRows (record { minus = false; rows = rows_of_term b t [] })
      → StaysSmall (pos 0) (alone b t)
  alone-stays t small =
      let first = first-small (rows_of_term b t []) small in
      ((omega (arith, ints, first.0), omega (arith, ints, first.1)), tt)

  sum-stays : (ss : SummandTrees) (i : Interval) (z : ℤ) → IsWithin i z
      → AllByRecursion IsSmall (front_bounds interval_sum i (summand_bounds b.vocabulary b.domains ss []))
      → OperandsAreTyped b.vocabulary (IsIntegerIn b.domains) ss [] → OperandsHaveAdding ss
      → list_any (λ (s : Summand). is_rowless s.rows) (summands_in b ss) ≡ false → StaysSmall z (summands_in b ss)
  sum-stays no_summands i z within small typed adding some = tt
  sum-stays (more_summands minus t ss) i z within small typed adding some =
      let rs = rows_of_term b t [] in
      let a = bounds_of b.vocabulary b.domains t [] in
      let j = interval_sum i (signed_interval minus a) in
      let both = neither (is_rowless rs) (list_any (λ (s : Summand). is_rowless s.rows) (summands_in b ss)) some in
      let own = first-within a rs both.0 (number-rows b given [] [] tt t typed.0 typed.1)
      (term-within b [] [] tt t adding.0) in
      let next = signed_within minus a i (first_number rs) z own within in (
        small-within j (z +ℤ first_weight minus rs) small.0 next,
        sum-stays ss j (z +ℤ first_weight minus rs) next small.1 typed.2 adding.1 both.1,
      )

  -- a term that is no sum
  alone-askable : (t : TermTree) → summands_of_term b t ≡ alone b t → RowsFit b t [] → AreInstancesGroundable b t []
      → HasSmallRows (record { minus = false; rows = rows_of_term b t [] }) → IsAskable b t
  alone-askable t is rows instances small = record {
    rows = rows;
    instances = instances;
    small = subst (AllByRecursion HasSmallRows) (sym is) (small, tt);
    sums = λ some. subst (StaysSmall (pos 0)) (sym is) (alone-stays t small);
  }

  -- one without aggregates
  plain-askable : (t : TermTree) → summands_of_term b t ≡ alone b t
      → TermIsTyped b.vocabulary (IsIntegerIn b.domains) t []
      → TermHasNoCounting t → TermIsBounded b.vocabulary b.domains t [] → IsAskable b t
  plain-askable t is typed none bounded =
      let ground = ground-term b (IsIntegerIn b.domains) t [] typed none in
      let adding = plain-adding b t ground in
      alone-askable t is (small-rows-fit b t [] [] tt adding bounded) (plain-instances b t [] ground)
      (term-small false t adding bounded)

  pub bounded-askable : (t : TermTree) → TermIsTyped b.vocabulary (IsIntegerIn b.domains) t [] → IsSide false t
      → TermIsBounded b.vocabulary b.domains t [] → IsAskable b t
  bounded-askable (variable n) typed placed bounded = plain-askable (variable n) refl typed tt bounded
  bounded-askable (integer z) typed placed bounded = plain-askable (integer z) refl typed tt bounded
  bounded-askable (constructed ty n) typed placed bounded = plain-askable (constructed ty n) refl typed tt bounded
  bounded-askable (application s ts) typed placed bounded = plain-askable (application s ts) refl typed placed bounded
  bounded-askable (summation ss) typed placed bounded =
      let side = ground-side b given (summation ss) false [] [] tt typed tt placed in
      let adding = addends-adding b ss [] side in
      record {
        rows = side-rows-fit b false (summation ss) [] [] tt side bounded;
        instances = side-instances b false (summation ss) [] [] tt side bounded;
        small = sum-small ss adding bounded.1;
        sums = sum-stays ss (exactly (pos 0)) (pos 0)
            (record { low = omega (arith, ints); high = omega (arith, ints) }) bounded.0 typed adding;
      }
  bounded-askable (product ts) typed placed bounded =
      let side = ground-side b given (product ts) false [] [] tt typed tt placed in
      alone-askable (product ts) refl (side-rows-fit b false (product ts) [] [] tt side bounded)
      (side-instances b false (product ts) [] [] tt side bounded)
      (term-small false (product ts) (addend-adding b (product ts) [] side) bounded)
  bounded-askable (aggregate k bs f t) typed placed bounded =
      let side = ground-side b given (aggregate k bs f t) false [] [] tt typed tt placed in
      alone-askable (aggregate k bs f t) refl tt (side-instances b false (aggregate k bs f t) [] [] tt side bounded)
      ((omega (arith, ints), omega (arith, ints)), tt)
