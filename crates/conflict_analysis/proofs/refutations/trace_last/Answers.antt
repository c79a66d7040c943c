use Rattle.std.proofs.Common.{ℕ, List, refl, sym, subst}
use Rattle.lit_core.specs.declared.literals.Lit.{Lit}
use Rattle.conflict_analysis.specs.Resolvents.{IsOfStep}
use Rattle.conflict_analysis.specs.Tracing.{IsBeside, IsTracing}
use Rattle.conflict_analysis.proofs.Places.{of-reason}
use Rattle.conflict_analysis.proofs.Below.{resolvent-within}
use Rattle.conflict_analysis.proofs.Traced.{tracing-resolve, tracing-decide, tracing-down}
use Rattle.conflict_analysis.proofs.refutations.trace_last.Goals as goal

pub step-step-requires : goal.step-step-requires
step-step-requires c = resolvent-within c.args.store.now c.args.end
    (IsBeside c.args.store.now.trail.steps c.args.end c.args.decisions.now.items) c.in-Some.place c.args.resolvent.now
    c.take_last.new.self c.requires.tracing.resolvent c.in-Some.ensures.some

pub absorb-requires : goal.absorb-requires
absorb-requires c = record {
  clause = subst (λ (p : ℕ). IsOfStep c.args.store.now p c.in-Some-reason.reason) (sym c.in-Some.ensures.some.top)
      (of-reason c.args.store.now c.in-Some.place c.step-step.result c.in-Some-reason.reason c.step-step.ensures.laws
      c.step-step.ensures.step c.in-Some-reason.is);
}

pub returns-in_ok-absorb-in-Some-reason-clause-tracing : goal.returns-in_ok-absorb-in-Some-reason-clause-tracing
returns-in_ok-absorb-in-Some-reason-clause-tracing c =
    tracing-resolve c.args.store.now c.step-step.ensures.laws c.args.end c.in-Some.place c.args.resolvent.now
    c.take_last.new.self c.args.decisions.now.items c.requires.tracing c.step-step.result c.step-step.ensures.step
    c.in-Some.ensures.some c.in-Some-reason.reason c.absorb.new.self c.in-Some-reason.is
    c.in_ok-absorb-in-Some-reason.ensures.ok

pub returns-in_ok-absorb-in-Some-reason-clause-more : goal.returns-in_ok-absorb-in-Some-reason-clause-more
returns-in_ok-absorb-in-Some-reason-clause-more c =
    tracing-down c.args.store.now c.step-step.ensures.laws c.args.end c.in-Some.place c.args.resolvent.now
    c.take_last.new.self c.args.decisions.now.items c.requires.tracing c.step-step.result c.step-step.ensures.step
    c.in-Some.ensures.some c.absorb.new.self c.in_ok-absorb-in-Some-reason.ensures.ok.gathers.top

pub returns-in_ok-push-in-None-clause-tracing : goal.returns-in_ok-push-in-None-clause-tracing
returns-in_ok-push-in-None-clause-tracing c =
    subst (λ (ls : List Lit). IsTracing c.args.store.now c.args.end c.take_last.new.self ls)
    (sym c.in_ok-push-in-None.ensures.items)
    (tracing-decide c.args.store.now c.step-step.ensures.laws c.args.end c.in-Some.place c.args.resolvent.now
    c.take_last.new.self c.args.decisions.now.items c.requires.tracing c.step-step.result c.step-step.ensures.step
    c.in-Some.ensures.some c.in-None.is)

pub returns-in_ok-push-in-None-clause-more : goal.returns-in_ok-push-in-None-clause-more
returns-in_ok-push-in-None-clause-more c =
    tracing-down c.args.store.now c.step-step.ensures.laws c.args.end c.in-Some.place c.args.resolvent.now
    c.take_last.new.self c.args.decisions.now.items c.requires.tracing c.step-step.result c.step-step.ensures.step
    c.in-Some.ensures.some c.take_last.new.self refl
