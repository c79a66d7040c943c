use Rattle.std.proofs.Common.{◌+◌, ◌*◌, ◌-◌, arith}
use Rattle.std.proofs.lemmas.List.Sums.{fold_more}
use Rattle.kb_text.specs.Pieces.{IsPiece, IntText}
use Rattle.kb_text.proofs.Numbers.{digit_at, decimal_front}
use Rattle.token_reader.proofs.items.number.Goals as goal

pub overflow_mul-n : goal.overflow_mul-n
overflow_mul-n c =
    let more = fold_more (λ n b. 10 * n + (b - 48)) 0 c.args.digits.now c.loop-b.b-index 0 c.loop-b-test.true in
    let front = decimal_front (c.loop-b.b-index + 1) c.args.digits.now in
    let value = c.loop-b.invariant in
    omega (arith, more, front, value, c.requires.small)

pub overflow_add-n : goal.overflow_add-n
overflow_add-n c =
    let more = fold_more (λ n b. 10 * n + (b - 48)) 0 c.args.digits.now c.loop-b.b-index 0 c.loop-b-test.true in
    let front = decimal_front (c.loop-b.b-index + 1) c.args.digits.now in
    let value = c.loop-b.invariant in
    omega (arith, more, front, value, c.requires.small, c.from.ensures)

pub overflow_sub-b : goal.overflow_sub-b
overflow_sub-b c =
    let is : IsPiece IntText c.args.digits.now = c.requires.digits in
    (digit_at c.args.digits.now c.loop-b.b-index is c.loop-b-test.true).0

pub loop-b-preserved : goal.loop-b-preserved
loop-b-preserved c =
    let more = fold_more (λ n b. 10 * n + (b - 48)) 0 c.args.digits.now c.loop-b.b-index 0 c.loop-b-test.true in
    let value = c.loop-b.invariant in
    omega (arith, more, value, c.from.ensures)
