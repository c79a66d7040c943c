use Rattle.std.proofs.Common.{rules, ◌≡◌, ◌+◌, ◌+ℤ◌, drop, get_or, FitsSigned, w64, to_z, of_z, refl, ap, ◌∙◌}
use Rattle.std.proofs.Common.{arith}
use Rattle.std.specs.Int.{w128}
use Rattle.std.proofs.lemmas.Int.{ints, to_z-of_z}
use Rattle.ground_core.specs.declared.parts.Part.{Part}
use Rattle.ground_core.specs.Intervals.{known_of}
use Rattle.aggregate_propagators.specs.Reasons.{in_end}
use Rattle.aggregate_propagators.specs.Totals.{total, gain, gain_if}
use Rattle.aggregate_propagators.specs.Implied.{assigned, under}
use Rattle.aggregate_propagators.specs.Thresholds.{amount_of}
use Rattle.aggregate_propagators.proofs.ListFacts.{no_part, sum-next}
use Rattle.aggregate_propagators.proofs.contradictions.total_at.Goals as goal

pub loop-part-preserved : goal.loop-part-preserved
loop-part-preserved c =
    let a = under (assigned c.args.values.now) c.args.with in
    let f = λ (p : Part). in_end c.args.high c.args.kind p.weight (known_of a p.lit) in
    let ps = c.args.parts.now in
    let least = amount_of c.args.least in
    let i = c.loop-part.part-index in
    let p : Part = get_or ps i no_part in
    let fits : FitsSigned w128 c.plus-sum.result = search rules in
    let share-fits : FitsSigned w64 c.share.result = search rules in
    let back : to_z w128 (of_z w128 c.plus-sum.result) ≡ c.plus-sum.result = to_z-of_z w128 c.plus-sum.result fits in
    let more : c.plus-sum.result ≡ to_z w128 c.loop-part.sum-bits +ℤ c.share.result = c.plus-sum.ensures.sum
    ∙ ap (λ z. to_z w128 c.loop-part.sum-bits +ℤ z) (to_z-of_z w64 c.share.result share-fits) in
    let one : c.share.result ≡ gain_if (in_end c.args.high c.args.kind p.weight (known_of a p.lit))
    (gain c.args.kind least p.weight) =
    c.share.ensures
    ∙ ap (λ o. gain_if (in_end c.args.high c.args.kind p.weight o)
    (gain c.args.kind least p.weight)) c.value_under-value.ensures in
    let all : c.plus-sum.result +ℤ total f c.args.kind least (drop (i + 1) ps)
    ≡ total f c.args.kind least ps = sum-next (total f c.args.kind least)
    (λ (q : Part). gain_if (f q) (gain c.args.kind least q.weight)) (λ x xs. refl) ps i
    no_part (to_z w128 c.loop-part.sum-bits) c.plus-sum.result c.loop-part-test.true c.loop-part.invariant.0
    (more ∙ ap (λ z. to_z w128 c.loop-part.sum-bits +ℤ z) one) in
    let low = c.plus-sum.ensures.low in
    let high = c.plus-sum.ensures.high in
    rw back (all, omega (arith, ints, c.loop-part.invariant.1, low), omega (arith, ints, c.loop-part.invariant.2, high))
