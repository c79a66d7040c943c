use Rattle.std.proofs.Common.{rules, ◌≡◌, ◌+◌, ◌+ℤ◌, drop, get_or, FitsSigned, w64, to_z, of_z, ap, ◌∙◌, arith}
use Rattle.std.specs.Int.{w128}
use Rattle.std.proofs.lemmas.Int.{ints, to_z-of_z}
use Rattle.ground_core.specs.declared.parts.Part.{Part}
use Rattle.def_ground.specs.LinearViews.{share_of, end_of}
use Rattle.def_ground.proofs.ThresholdCalls.{no_part, end-next}
use Rattle.def_ground.proofs.thresholds.end.Goals as goal

pub loop-part-preserved : goal.loop-part-preserved
loop-part-preserved c =
    let ps = c.args.parts.now in
    let i = c.loop-part.part-index in
    let high = c.args.high in
    let p : Part = get_or ps i no_part in
    let before = to_z w128 c.loop-part.total-bits in
    let fits : FitsSigned w128 c.plus-total.result = search rules in
    let share-fits : FitsSigned w64 c.share.result = search rules in
    let back : to_z w128 (of_z w128 c.plus-total.result) ≡ c.plus-total.result =
    to_z-of_z w128 c.plus-total.result fits in
    let more : c.plus-total.result ≡ before +ℤ share_of high p.weight =
    c.plus-total.ensures.sum ∙ ap (λ z. before +ℤ z) (to_z-of_z w64 c.share.result share-fits)
    ∙ ap (λ z. before +ℤ z) c.share.ensures in
    let all : c.plus-total.result +ℤ end_of high (drop (i + 1) ps) ≡ end_of high ps =
    end-next high ps i no_part before c.plus-total.result c.loop-part-test.true c.loop-part.invariant.0 more in
    let least = c.plus-total.ensures.low in
    let most = c.plus-total.ensures.high in
    rw back
    (all, omega (arith, ints, c.loop-part.invariant.1, least), omega (arith, ints, c.loop-part.invariant.2, most))
