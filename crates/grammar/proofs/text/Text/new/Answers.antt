use Rattle.std.proofs.Common.{arith}
use Rattle.std.proofs.lemmas.Grind.{common_steps}
use Rattle.grammar.proofs.text.Text.new.Goals as goal

pub loop-b-preserved : goal.loop-b-preserved
loop-b-preserved c =
    let l = c.loop-b.invariant in
    let short = c.if-text-le-SHORT.true in
    let more = c.loop-b-test.true in
    record {
      count = omega (arith, l.count);
      room = grind (arith, common_steps, l.room);
      copied = grind (arith, common_steps, l.count, l.room, l.copied, c.from.ensures, short, more);
    }
