use Rattle.std.proofs.Common.{◌≡◌, ◌<◌, ◌∙◌, length, w64, to_z, of_z, arith, rules}
use Rattle.ground_walk.proofs.CountingSteps.{next-product}
use Rattle.ground_walk.proofs.counting.times_integers.Goals as goal

pub loop-factor-preserved : goal.loop-factor-preserved
loop-factor-preserved c =
    let i = c.loop-factor.factor-index in
    let ts = c.args.factors.now in
    let within : i < length ts = omega (arith, c.loop-factor-test.true, c.loop-factor.auto.factor-index-end) in
    let next : to_z w64 (of_z w64 c.in-Some.next) ≡ c.in-Some.next = search rules in
    next-product ts i c.factor-item.result within c.factor-item.is (to_z w64 c.loop-factor.product-bits)
    (to_z w64 (of_z w64 c.in-Some.next)) _ (next ∙ c.in-Some.ensures) c.loop-factor.invariant
