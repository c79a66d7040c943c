use Rattle.std.proofs.Common.{◌≡◌, ℕ, length, ap, sym, ◌∙◌, subst}
use Rattle.std.proofs.lemmas.List.{length-map}
use Rattle.clause_store.specs.declared.trails.Step.{Step}
use Rattle.clause_store.specs.StoreState.{StoreState}
use Rattle.conflict_analysis.specs.Resolvents.{IsOfStep, IsNew}
use Rattle.conflict_analysis.proofs.Places.{of-conflict}
use Rattle.conflict_analysis.proofs.Learnt.{current-start}
use Rattle.conflict_analysis.proofs.analysis.analyse.Goals as goal

pub absorb-requires : goal.absorb-requires
absorb-requires c =
    let s : StoreState = c.args.store.now in
    let len : length c.trail.result.now ≡ length s.trail.steps = ap length c.trail.ensures.value
    ∙ length-map s.trail.steps (λ (t : Step). t.lit) in
    record {
      clause = subst (λ (p : ℕ). IsOfStep s p c.args.conflict) (sym (c.new-resolvent.ensures.top_is ∙ len))
          (of-conflict s c.args.conflict c.level.ensures.laws c.requires.conflict);
    }

pub loop-resolvent-init : goal.loop-resolvent-init
loop-resolvent-init c =
    let s : StoreState = c.args.store.now in
    let len : length c.trail.result.now ≡ length s.trail.steps = ap length c.trail.ensures.value
    ∙ length-map s.trail.steps (λ (t : Step). t.lit) in
    let fresh = c.new-resolvent.result in
    let new : IsNew s.trail.level (length s.trail.steps) fresh = subst (λ (f : ℕ). IsNew f (length s.trail.steps) fresh)
    c.level.ensures.value (subst (λ (p : ℕ). IsNew c.level.result p fresh) len c.new-resolvent.ensures) in
    current-start s c.level.ensures.laws c.args.conflict fresh c.absorb.new.self c.requires.conflict c.requires.current
    new c.in_ok-absorb.ensures.ok
