use Rattle.std.proofs.Common.{rules, false}
use Rattle.log_checker.proofs.Turning.{mk, put-more}
use Rattle.log_checker.proofs.literal_sets.LiteralSet.mark_all.Goals as goal

pub loop-lit-preserved : goal.loop-lit-preserved
loop-lit-preserved c = put-more c.loop-lit.self c.mark.new.self c.args.lits.now c.loop-lit.lit-index
    (mk 0 false) c.loop-lit-test.true (search rules) c.loop-lit.invariant
