use Rattle.data_refusals.proofs.Steps.{next_argument}
use Rattle.data_refusals.proofs.walks.+walk.Goals as goal

pub terms-loop-i-preserved : goal.terms-loop-i-preserved
terms-loop-i-preserved t c = next_argument c.args.symbols.now c.args.types.now c.args.all.now c.loop-i.i
    c.index-all-i.result c.position.result _ _ _ c.loop-i-test.true c.index-all-i.is c.position.ensures
    c.in_ok-term.ensures c.loop-i.invariant
