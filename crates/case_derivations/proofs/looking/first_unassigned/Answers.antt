use Rattle.std.proofs.Common.{rules}
use Rattle.case_derivations.proofs.Assigning.{assigned-more, assigned-all}
use Rattle.case_derivations.proofs.looking.first_unassigned.Goals as goal

pub loop-before-preserved : goal.loop-before-preserved
loop-before-preserved c = λ ls h. assigned-more c.args.set.now ls c.loop-before.before h (search rules)
    (c.loop-before.invariant ls h)

pub returns : goal.returns
returns c = λ ls h. assigned-all c.args.vars c.loop-before.before ls (search rules) (c.loop-before.invariant ls h)
