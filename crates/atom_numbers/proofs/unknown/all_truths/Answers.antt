use Rattle.std.proofs.Common.{length, ap, arith}
use Rattle.atom_numbers.proofs.UnknownFacts.{truths-more}
use Rattle.atom_numbers.proofs.unknown.all_truths.Goals as goal

pub loop-number-preserved : goal.loop-number-preserved
loop-number-preserved c =
    let k = c.args.partial.now in
    let size = ap length c.symbols.ensures in
    truths-more k c.loop-number.number c.loop-number.truths.items c.push_values.new.out.items
    (omega (arith, c.loop-number-test.true, c.len-count.ensures, size)) c.loop-number.invariant
    c.in_ok-push_values.ensures
