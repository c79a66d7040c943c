use Rattle.std.proofs.Common.{arith, rules}
use Rattle.plain_evaluation.specs.Environments.{env_view}
use Rattle.term_values.proofs.PlainLemmas.{sum_begins, sum_more, sum_all}
use Rattle.term_values.proofs.plain_terms.plain_sum.Goals as goal

pub loop-part-init : goal.loop-part-init
loop-part-init c = sum_begins c.args.base.now (env_view c.args.env.now) c.args.parts.now

pub loop-part-preserved : goal.loop-part-preserved
loop-part-preserved c =
    sum_more c.args.base.now (env_view c.args.env.now) c.args.parts.now c.loop-part.part-index c.part-item.result
    c.in-Some.n _ _ c.loop-part-test.true c.part-item.is c.in-Some.ensures (search rules) c.loop-part.invariant

pub returns : goal.returns
returns c =
    sum_all c.args.base.now (env_view c.args.env.now) c.args.parts.now c.loop-part.part-index _
    (omega (arith, c.loop-part-test.false)) c.loop-part.invariant
