use Rattle.ground_core.proofs.AtomCounts.{next-symbol}
use Rattle.ground_core.proofs.atom_counts.count_atoms.Goals as goal

pub loop-number-preserved : goal.loop-number-preserved
loop-number-preserved c =
    next-symbol c.args.symbols.now c.args.domains.now c.loop-number.number c.index-symbols-number.result
    c.loop-number.count c.in-Some.more c.in-Some-checked_add.sum c.loop-number-test.true c.index-symbols-number.is
    c.in-Some.ensures c.in-Some-checked_add.ensures.1 c.loop-number.invariant
