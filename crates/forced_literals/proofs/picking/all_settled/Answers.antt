use Rattle.forced_literals.proofs.PickingFacts.{settled-more}
use Rattle.forced_literals.proofs.picking.all_settled.Goals as goal

pub loop-lit-preserved : goal.loop-lit-preserved
loop-lit-preserved c =
    settled-more c.args.lits.now c.loop-lit.lit-index _ c.loop-lit-test.true c.args.numbers.now c.loop-lit.vars.keys
    c.add.new.numbers.keys c.loop-lit.invariant c.settled_by.result c.settled_by.ensures c.in_ok-add.ensures
