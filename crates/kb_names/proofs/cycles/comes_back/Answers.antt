use Rattle.std.proofs.Common.{arith, zero}
use Rattle.stage_definitions.proofs.Climbs.{ends, is_back, is_past, goes_on}
use Rattle.kb_names.proofs.cycles.comes_back.Goals as goal

pub returns-in_default : goal.returns-in_default
returns-in_default c = ends c.args.parents.now c.args.ty c.loop-step.at c.loop-step.step c.args.steps _
    c.loop-step.invariant c.loop-step-test.true c.in_default.ensures

pub returns-then-above-ty : goal.returns-then-above-ty
returns-then-above-ty c =
    is_back c.args.parents.now c.args.ty c.loop-step.at c.loop-step.step c.args.steps _ c.loop-step.invariant
    c.loop-step-test.true c.in-Some.above c.in-Some.ensures c.if-above-ty.true

pub returns-then-above-ty-2 : goal.returns-then-above-ty-2
returns-then-above-ty-2 c =
    is_past c.args.parents.now c.args.ty c.loop-step.at c.loop-step.step c.args.steps _ c.loop-step.invariant
    c.loop-step-test.true c.in-Some.above c.in-Some.ensures c.if-above-ty-2.true

pub loop-step-preserved : goal.loop-step-preserved
loop-step-preserved c =
    goes_on c.args.parents.now c.args.ty c.loop-step.at c.loop-step.step c.args.steps _ c.loop-step.invariant
    c.loop-step-test.true c.in-Some.above c.in-Some.ensures (omega arith)

pub returns : goal.returns
returns c = c.loop-step.invariant zero (omega arith)
