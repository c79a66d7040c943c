use Rattle.std.proofs.Common.{◌≤◌, ◌+◌, ◌*◌, ◌-◌, ◌^◌, sym, arith}
use Rattle.std.proofs.lemmas.List.Sums.{fold_more}
use Rattle.std.proofs.lemmas.Bool.{le-leb}
use Rattle.kb_text.specs.Pieces.{IsPiece, IntText}
use Rattle.kb_text.specs.Tokens.{decimal}
use Rattle.kb_text.proofs.Numbers.{digit_at, decimal_front}
use Rattle.kb_text.proofs.refusal.is_too_large.Goals as goal

pub returns-then-n-gt1000000000000000000 : goal.returns-then-n-gt1000000000000000000
returns-then-n-gt1000000000000000000 c =
    let more = fold_more (λ n b. 10 * n + (b - 48)) 0 c.args.digits.now c.loop-b.b-index 0 c.loop-b-test.true in
    let front = decimal_front (c.loop-b.b-index + 1) c.args.digits.now in
    let value = c.loop-b.invariant.value in
    let large : 2 ^ 63 ≤ decimal c.args.digits.now = omega (
      arith,
      more,
      front,
      value,
      c.if-n-gt1000000000000000000.true,
    ) in
    sym (le-leb (2 ^ 63) (decimal c.args.digits.now) large)

pub overflow_sub-b : goal.overflow_sub-b
overflow_sub-b c =
    let is : IsPiece IntText c.args.digits.now = c.requires in
    (digit_at c.args.digits.now c.loop-b.b-index is c.loop-b-test.true).0

pub loop-b-preserved : goal.loop-b-preserved
loop-b-preserved c =
    let is : IsPiece IntText c.args.digits.now = c.requires in
    let range = digit_at c.args.digits.now c.loop-b.b-index is c.loop-b-test.true in
    let more = fold_more (λ n b. 10 * n + (b - 48)) 0 c.args.digits.now c.loop-b.b-index 0 c.loop-b-test.true in
    let value = c.loop-b.invariant.value in
    record {
      value = omega (arith, more, c.from.ensures);
      small =
          omega (arith, c.from.ensures, c.if-n-gt1000000000000000000.false, range.1);
    }
