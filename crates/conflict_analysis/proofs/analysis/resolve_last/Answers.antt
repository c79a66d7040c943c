use Rattle.std.proofs.Common.{◌≡◌, ℕ, false, true, length, refl, sym, subst}
use Rattle.conflict_analysis.specs.Resolvents.{IsOfStep}
use Rattle.conflict_analysis.specs.Tracing.{NoLiteral, HasUpper}
use Rattle.conflict_analysis.proofs.Keys.{some-number}
use Rattle.conflict_analysis.proofs.Places.{of-reason}
use Rattle.conflict_analysis.proofs.Below.{resolvent-within}
use Rattle.conflict_analysis.proofs.Learnt.{current-reason, current-resolve, current-down, current-last}
use Rattle.conflict_analysis.proofs.analysis.resolve_last.Goals as goal

pub returns-then-is_empty-clause-last : goal.returns-then-is_empty-clause-last
returns-then-is_empty-clause-last c = current-last c.args.store.now c.in-Some.place c.args.resolvent.now
    c.take_last.new.self c.requires.current c.in-Some.ensures.some (c.if-is_empty.ensures.0 refl)

pub step-requires : goal.step-requires
step-requires c = resolvent-within c.args.store.now (length c.args.store.now.trail.steps) NoLiteral c.in-Some.place
    c.args.resolvent.now c.take_last.new.self c.requires.current.resolvent c.in-Some.ensures.some

pub unreachable-requires-in_default-reason : goal.unreachable-requires-in_default-reason
unreachable-requires-in_default-reason c =
    let more : HasUpper c.take_last.new.self = some-number c.take_last.new.self.upper (λ e. let f : false ≡ true =
    c.if-is_empty.ensures.1 e in cc) in
    current-reason c.args.store.now c.step.ensures.laws c.requires.level c.in-Some.place c.args.resolvent.now
    c.take_last.new.self c.requires.current c.in-Some.ensures.some more c.step.result c.step.ensures.step
    c.in_default-reason.is

pub absorb-requires : goal.absorb-requires
absorb-requires c = record {
  clause = subst (λ (p : ℕ). IsOfStep c.args.store.now p c.in-Some-reason.reason) (sym c.in-Some.ensures.some.top)
      (of-reason c.args.store.now c.in-Some.place c.step.result c.in-Some-reason.reason c.step.ensures.laws
      c.step.ensures.step c.in-Some-reason.is);
}

pub returns-clause-current : goal.returns-clause-current
returns-clause-current c =
    let more : HasUpper c.take_last.new.self = some-number c.take_last.new.self.upper (λ e. let f : false ≡ true =
    c.if-is_empty.ensures.1 e in cc) in
    current-resolve c.args.store.now c.step.ensures.laws c.requires.level c.in-Some.place c.args.resolvent.now
    c.take_last.new.self c.requires.current c.in-Some.ensures.some more c.step.result c.step.ensures.step
    c.in-Some-reason.reason c.absorb.new.self c.in-Some-reason.is c.in_ok-absorb.ensures.ok

pub returns-clause-down : goal.returns-clause-down
returns-clause-down c = current-down c.args.store.now c.step.ensures.laws c.requires.level c.in-Some.place
    c.args.resolvent.now c.take_last.new.self c.requires.current c.in-Some.ensures.some c.absorb.new.self
    c.in_ok-absorb.ensures.ok.gathers.top
