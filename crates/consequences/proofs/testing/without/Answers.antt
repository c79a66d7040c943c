use Rattle.std.proofs.Common.{arith}
use Rattle.consequences.proofs.TestFacts.{next-without, end-without}
use Rattle.consequences.proofs.testing.without.Goals as goal

pub loop-other-preserved : goal.loop-other-preserved
loop-other-preserved c = next-without c.args.lit c.args.lits.now c.loop-other.other-index _ c.loop-other.list
    c.push_unless.new.list c.loop-other-test.true c.loop-other.invariant c.in_ok-push_unless.ensures

pub returns : goal.returns
returns c = end-without c.args.lit c.args.lits.now c.loop-other.other-index c.loop-other.list
    (omega (arith, c.loop-other-test.false)) c.loop-other.invariant
