use Rattle.fo_printer.proofs.Gathered.{over_at}
use Rattle.fo_printer.proofs.entries.push_constant.Goals as goal

pub value-requires : goal.value-requires
value-requires c =
    over_at c.args.s.now c.args.atom.now.symbol c.args.atom.now.args c.args.values.now c.loop-x.x-index c.requires
    c.loop-x-test.true
    c.loop-x.atom.symbol c.loop-x.atom.args c.loop-x.invariant.symbol c.loop-x.invariant.args c.x-item.result
    c.in_ok-copy.field-0 c.x-item.is c.in_ok-copy.ensures
