use Rattle.std.proofs.Common.{arith}
use Rattle.consult_text.proofs.DigitValues.{digit_fits}
use Rattle.consult_text.proofs.digits.digits_value.Goals as goal

pub overflow_mul-value : goal.overflow_mul-value
overflow_mul-value c =
    let fits = digit_fits c.args.digits.now c.loop-digit.digit-index c.loop-digit.value c.loop-digit-test.true
    c.loop-digit.invariant in
    omega (arith, fits, c.requires)

pub overflow_add-value : goal.overflow_add-value
overflow_add-value c =
    let fits = digit_fits c.args.digits.now c.loop-digit.digit-index c.loop-digit.value c.loop-digit-test.true
    c.loop-digit.invariant in
    omega (arith, fits, c.requires, c.from.ensures, c.saturating_sub.ensures)
