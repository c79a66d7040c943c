use Rattle.std.proofs.Common.{◌≡◌, drop, sym, ◌∙◌}
use Rattle.kb_text.specs.declared.procedure.Step.TheVariants.{Last, Stop, Next}
use Rattle.kb_text.specs.Procedures.{step_of, passage_at}
use Rattle.kb_text.proofs.Passages.{reaches_next, reaches_last, reaches_stop, reaches_end}
use Rattle.kb_text.proofs.procedure.procedure_len.Goals as goal

pub returns-in-Last-clause-value : goal.returns-in-Last-clause-value
returns-in-Last-clause-value c =
    let step : step_of c.loop-i.braces (passage_at (drop c.loop-i.i c.args.bytes.now)) ≡ Last =
    rw c.split_at.ensures.back at (sym c.step_at.ensures.value ∙ c.in-Last.is) in
    reaches_last c.loop-i.invariant step

pub returns-in-Stop-clause-value : goal.returns-in-Stop-clause-value
returns-in-Stop-clause-value c =
    let step : step_of c.loop-i.braces (passage_at (drop c.loop-i.i c.args.bytes.now)) ≡ Stop =
    rw c.split_at.ensures.back at (sym c.step_at.ensures.value ∙ c.in-Stop.is) in
    reaches_stop c.loop-i.invariant step

pub loop-i-preserved : goal.loop-i-preserved
loop-i-preserved c =
    let step : step_of c.loop-i.braces (passage_at (drop c.loop-i.i c.args.bytes.now))
    ≡ Next c.in-Next.next c.in-Next.n = rw c.split_at.ensures.back at (sym c.step_at.ensures.value
    ∙ c.in-Next.is) in
    reaches_next c.loop-i.invariant c.in-Next.next c.in-Next.n step

pub returns-clause-value : goal.returns-clause-value
returns-clause-value c = reaches_end c.loop-i.invariant c.loop-i-test.false
