use Rattle.std.proofs.Common.{arith, zero}
use Rattle.type_constraints.proofs.WaysUp.{begins, is_here, is_nowhere, is_further}
use Rattle.type_constraints.proofs.subtypes.is_under.Goals as goal

pub loop-step-init : goal.loop-step-init
loop-step-init c = begins c.args.types.now c.args.lower c.args.upper

pub returns-then-at-upper : goal.returns-then-at-upper
returns-then-at-upper c = is_here c.args.types.now c.loop-step.at c.args.upper c.loop-step._step _ c.loop-step.invariant
    c.loop-step-test.true c.if-at-upper.true

pub returns-in_default : goal.returns-in_default
returns-in_default c =
    is_nowhere c.args.types.now c.loop-step.at c.args.upper c.loop-step._step _ c.loop-step.invariant
    c.loop-step-test.true c.if-at-upper.false c.in_default.ensures

pub loop-step-preserved : goal.loop-step-preserved
loop-step-preserved c = λ m sum.
    is_further c.args.types.now c.loop-step.at c.args.upper c.loop-step._step _ c.loop-step.invariant c.in-Some.parent
    c.if-at-upper.false c.in-Some.ensures m (omega arith)

pub returns : goal.returns
returns c = c.loop-step.invariant zero (omega arith)
