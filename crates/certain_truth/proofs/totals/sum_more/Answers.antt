use Rattle.std.proofs.Common.{◌≤◌, ◌≤ℤ◌, ◌*◌, ◌+◌, ◌^◌, pos, neg_ℤ, arith}
use Rattle.std.proofs.lemmas.Int.{ints}
use Rattle.certain_truth.proofs.totals.sum_more.Goals as goal

pub returns-in-Some-Num-clause-low : goal.returns-in-Some-Num-clause-low
returns-in-Some-Num-clause-low c =
    let before : neg_ℤ (pos (2 ^ 63 * c.args.parts)) ≤ℤ c.in-Some-Num.sum = rw c.in-Some-Num.is-0 at c.requires.low in
    let room : c.args.parts + 1 ≤ 2 ^ 64 = omega (arith, c.requires.room) in
    rw c.add.ensures (omega (arith, ints, before, c.signed.ensures.low))
