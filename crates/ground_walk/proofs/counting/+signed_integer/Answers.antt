use Rattle.std.proofs.Common.{ap, length, arith}
use Rattle.ground_walk.proofs.CountingSteps.{no-integer}
use Rattle.ground_walk.proofs.counting.+signed_integer.Goals as goal

pub returns-in-len2-up : goal.returns-in-len2-up
returns-in-len2-up t c =
    let n = ap (λ xs. length xs) c.as_slice.ensures.value in
    no-integer c.args.term.now c.in-Sum.parts c.in-Sum.is (omega (arith, n, c.in-len2-up.len_at_least))
