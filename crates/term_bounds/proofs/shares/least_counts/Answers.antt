use Rattle.std.proofs.Common.{rules, ◌≡◌, ◌+◌, ◌+ℤ◌, drop, get_or, FitsSigned, w64, to_z, of_z, refl, ap, ◌∙◌}
use Rattle.std.proofs.Common.{arith}
use Rattle.std.specs.Int.{w128}
use Rattle.std.proofs.lemmas.Int.{ints, to_z-of_z}
use Rattle.lit_core.specs.Literals.{value_in}
use Rattle.ground_core.specs.declared.parts.Part.{Part}
use Rattle.term_bounds.specs.Amounts.{amount_of}
use Rattle.term_bounds.specs.Shares.{least_total, share}
use Rattle.term_bounds.specs.Totals.{counted_as}
use Rattle.term_bounds.proofs.ListFacts.{no_part, sum-next}
use Rattle.term_bounds.proofs.shares.least_counts.Goals as goal

pub loop-part-preserved : goal.loop-part-preserved
loop-part-preserved c =
    let k = c.args.line.kind in
    let bound = amount_of c.args.line.bound in
    let ps = c.args.parts.now in
    let i = c.loop-part.part-index in
    let p : Part = get_or ps i no_part in
    let w = counted_as k bound p.weight in
    let fits : FitsSigned w128 c.plus-sum.result = search rules in
    let share-fits : FitsSigned w64 c.part_share.result = search rules in
    let back : to_z w128 (of_z w128 c.plus-sum.result) ≡ c.plus-sum.result = to_z-of_z w128 c.plus-sum.result fits in
    let more : c.plus-sum.result ≡ to_z w128 c.loop-part.sum-bits +ℤ c.part_share.result = c.plus-sum.ensures.sum
    ∙ ap (λ z. to_z w128 c.loop-part.sum-bits +ℤ z) (to_z-of_z w64 c.part_share.result share-fits) in
    let one : c.part_share.result ≡ share (value_in c.args.assignment.now p.lit) w = c.part_share.ensures
    ∙ ap (λ o. share o w) c.value.ensures in
    let all : c.plus-sum.result +ℤ least_total c.args.assignment.now k bound (drop (i + 1) ps)
    ≡ least_total c.args.assignment.now k bound ps = sum-next (least_total c.args.assignment.now k bound)
    (λ (q : Part). share (value_in c.args.assignment.now q.lit) (counted_as k bound q.weight)) (λ x xs. refl) ps i
    no_part (to_z w128 c.loop-part.sum-bits) c.plus-sum.result c.loop-part-test.true c.loop-part.invariant.0
    (more ∙ ap (λ z. to_z w128 c.loop-part.sum-bits +ℤ z) one) in
    let low = c.plus-sum.ensures.low in
    let high = c.plus-sum.ensures.high in
    rw back (all, omega (arith, ints, c.loop-part.invariant.1, low), omega (arith, ints, c.loop-part.invariant.2, high))
