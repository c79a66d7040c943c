use Rattle.std.proofs.Common.{◌≡◌, ◌∙◌, ◌*ℤ◌, FitsSigned, w64, ap, rules}
use Rattle.std.specs.Int.{int_min, int_max, w128}
use Rattle.std.proofs.lemmas.Int.{to_z-of_z}
use Rattle.stage_definitions.specs.ClampedBounds.{clamp_interval}
use Rattle.size_stage.specs.Ranges.{interval, range_view}
use Rattle.size_stage.proofs.Walks.{product_of}
use Rattle.size_stage.proofs.ranges.Range.times.Goals as goal

pub returns : goal.returns
returns c =
    let i = c.args.self in
    let j = c.args.other in
    let f1 : FitsSigned w64 i.low = search rules in
    let f2 : FitsSigned w64 i.high = search rules in
    let f3 : FitsSigned w64 j.low = search rules in
    let f4 : FitsSigned w64 j.high = search rules in
    let g1 : FitsSigned w128 c.multiplied-lows.result = search rules in
    let g2 : FitsSigned w128 c.multiplied-low_high.result = search rules in
    let g3 : FitsSigned w128 c.multiplied-high_low.result = search rules in
    let g4 : FitsSigned w128 c.multiplied-highs.result = search rules in
    let h1 : FitsSigned w128 c.lesser.result = search rules in
    let h2 : FitsSigned w128 c.lesser-2.result = search rules in
    let h3 : FitsSigned w128 c.lesser-3.result = search rules in
    let k1 : FitsSigned w128 c.greater.result = search rules in
    let k2 : FitsSigned w128 c.greater-2.result = search rules in
    let k3 : FitsSigned w128 c.greater-3.result = search rules in
    let lows : c.multiplied-lows.result ≡ i.low *ℤ j.low = simp to_z-of_z at c.multiplied-lows.ensures in
    let low_high : c.multiplied-low_high.result ≡ i.low *ℤ j.high = simp to_z-of_z at c.multiplied-low_high.ensures in
    let high_low : c.multiplied-high_low.result ≡ i.high *ℤ j.low = simp to_z-of_z at c.multiplied-high_low.ensures in
    let highs : c.multiplied-highs.result ≡ i.high *ℤ j.high = simp to_z-of_z at c.multiplied-highs.ensures in
    let p : c.lesser.result ≡ int_min c.multiplied-lows.result c.multiplied-low_high.result =
    simp to_z-of_z at c.lesser.ensures in
    let q : c.lesser-2.result ≡ int_min c.multiplied-high_low.result c.multiplied-highs.result =
    simp to_z-of_z at c.lesser-2.ensures in
    let l : c.lesser-3.result ≡ int_min c.lesser.result c.lesser-2.result = simp to_z-of_z at c.lesser-3.ensures in
    let u : c.greater.result ≡ int_max c.multiplied-lows.result c.multiplied-low_high.result =
    simp to_z-of_z at c.greater.ensures in
    let w : c.greater-2.result ≡ int_max c.multiplied-high_low.result c.multiplied-highs.result =
    simp to_z-of_z at c.greater-2.ensures in
    let h : c.greater-3.result ≡ int_max c.greater.result c.greater-2.result = simp to_z-of_z at c.greater-3.ensures in
    let ends : range_view c.between.result ≡ clamp_interval (interval c.lesser-3.result c.greater-3.result) =
    simp to_z-of_z at c.between.ensures in
    ends
    ∙ ap clamp_interval
    (product_of (range_view i) (range_view j) c.multiplied-lows.result c.multiplied-low_high.result
    c.multiplied-high_low.result c.multiplied-highs.result
    c.lesser.result c.lesser-2.result c.lesser-3.result c.greater.result c.greater-2.result c.greater-3.result
    lows low_high high_low highs p q l u w h)
