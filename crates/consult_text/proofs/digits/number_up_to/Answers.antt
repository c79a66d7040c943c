use Rattle.std.proofs.Common.{arith}
use Rattle.consult_text.proofs.DigitValues.{digit_fits}
use Rattle.consult_text.proofs.digits.number_up_to.Goals as goal

pub returns-then-value-limit : goal.returns-then-value-limit
returns-then-value-limit c =
    let fits = digit_fits c.args.digits.now c.loop-digit.digit-index c.loop-digit.value c.loop-digit-test.true
    c.loop-digit.invariant.value in
    λ is. omega (arith, fits, is.most, c.if-value-limit.true, c.from.ensures, c.saturating_sub.ensures)
