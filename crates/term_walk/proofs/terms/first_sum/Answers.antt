use Rattle.std.proofs.Common.{◌≡◌, ◌+◌, ◌<◌, ℤ, map, drop, length, w64, to_z, of_z, subst, ap, ◌∙◌, arith}
use Rattle.std.specs.List.{AllByRecursion}
use Rattle.kb_logic.specs.Meaning.{signed_of}
use Rattle.def_ground.specs.AskedTerms.{first_number, first_weight, first_sum}
use Rattle.term_walk.specs.Askable.{summand_view, HasSmallRows, StaysSmall, IsSmallNumber}
use Rattle.term_walk.proofs.AskedSteps.{left-more, first-small, signed-small, small-kept, next-same, next-sums}
use Rattle.std.proofs.Common.{◌+ℤ◌, sym}
use Rattle.term_walk.proofs.terms.first_sum.Goals as goal

pub loop-summand-preserved : goal.loop-summand-preserved
loop-summand-preserved c =
    let xs = c.args.summands.now in
    let i = c.loop-summand.summand-index in
    let s = c.summand-item.result in
    let z : ℤ = to_z w64 c.loop-summand.total-bits in
    let w : ℤ = c.with_sign-total.result in
    let inside : i < length xs = omega (arith, c.loop-summand-test.true, c.loop-summand.auto.summand-index-end) in
    let left = map summand_view (drop (i + 1) xs) in
    let e = left-more xs i s inside c.summand-item.is in
    let small = subst (AllByRecursion HasSmallRows) e c.loop-summand.invariant.small in
    let sums = subst (StaysSmall z) e c.loop-summand.invariant.sums in
    let first = first-small s.rows small.0 in
    let own : w ≡ first_weight s.minus s.rows =
    c.with_sign-total.ensures
    ∙ ap (signed_of s.minus)
    (ap (λ x. to_z w64 (of_z w64 x)) c.first_number.ensures ∙ small-kept (first_number s.rows) first) in
    let few : IsSmallNumber w = subst IsSmallNumber (sym own) (signed-small s.minus (first_number s.rows) first) in
    let same = ap (λ ss. z +ℤ first_sum ss) (sym e) ∙ c.loop-summand.invariant.same in
    let total = first_sum (map summand_view xs) in
    record {
      same = next-same (summand_view s) left z w total own same sums few;
      small = small.1;
      sums = next-sums (summand_view s) left z w total own same sums few;
    }
