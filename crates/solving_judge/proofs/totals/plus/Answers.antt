use Rattle.std.proofs.Common.{rules, ◌≡◌, ◌+ℤ◌, FitsSigned, to_z, of_z, subst, arith}
use Rattle.std.specs.Int.{w128}
use Rattle.std.proofs.lemmas.Int.{ints, to_z-of_z}
use Rattle.solving_judge.specs.declared.totals.Total.TheVariants.{Num}
use Rattle.solving_judge.specs.Totals.{IsWithin}
use Rattle.solving_judge.proofs.totals.plus.Goals as goal

pub returns-in-Num-clause-size : goal.returns-in-Num-clause-size
returns-in-Num-clause-size c = λ n h.
    let z = c.in-Num.number in
    let k : IsWithin n (Num z) = subst (IsWithin n) c.in-Num.is h in
    let fits : FitsSigned w128 z = search rules in
    let old : to_z w128 (of_z w128 z) ≡ z = to_z-of_z w128 z fits in
    let more-fits : FitsSigned w128 c.from.result = search rules in
    let more : to_z w128 (of_z w128 c.from.result) ≡ c.from.result = to_z-of_z w128 c.from.result more-fits in
    let sum-fits : FitsSigned w128 (to_z w128 (of_z w128 c.from.result) +ℤ to_z w128 (of_z w128 z)) = search rules in
    let sum = to_z-of_z w128 (to_z w128 (of_z w128 c.from.result) +ℤ to_z w128 (of_z w128 z)) sum-fits in
    let low = k.0 in
    let high = k.1 in
    let e = c.from.ensures in
    let r = c.ranges.more.sfits in
    (omega (arith, ints, sum, more, old, low, high), omega (arith, ints, sum, more, old, low, high))
