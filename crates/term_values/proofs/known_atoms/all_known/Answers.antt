use Rattle.std.proofs.Common.{length, ap, arith}
use Rattle.term_values.proofs.KnownLists.{values_more}
use Rattle.term_values.proofs.known_atoms.all_known.Goals as goal

pub loop-number-preserved : goal.loop-number-preserved
loop-number-preserved c =
    let k = c.args.partial.now in
    let size = ap length c.symbols.ensures in
    values_more k c.loop-number.number c.loop-number.known.items c.push_symbol.new.known.items
    (omega (arith, c.loop-number-test.true, c.len-count.ensures, size)) c.loop-number.invariant
    c.in_ok-push_symbol.ensures
