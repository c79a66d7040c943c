use Rattle.std.proofs.Common.{◌≡◌, ℕ, length, ap, sym, ◌∙◌, subst}
use Rattle.std.proofs.lemmas.List.{length-map}
use Rattle.clause_store.specs.declared.trails.Step.{Step}
use Rattle.clause_store.specs.StoreState.{StoreState}
use Rattle.conflict_analysis.specs.Resolvents.{IsOfStep}
use Rattle.conflict_analysis.specs.Tracing.{IsTraced}
use Rattle.conflict_analysis.proofs.Places.{of-conflict}
use Rattle.conflict_analysis.proofs.Traced.{root-follows}
use Rattle.conflict_analysis.proofs.refutations.root_hints.Goals as goal

pub trace-requires-clause-clause : goal.trace-requires-clause-clause
trace-requires-clause-clause c =
    let s : StoreState = c.args.store.now in
    let len : length c.trail.result.now ≡ length s.trail.steps = ap length c.trail.ensures.value
    ∙ length-map s.trail.steps (λ (t : Step). t.lit) in
    subst (λ (p : ℕ). IsOfStep s p c.args.conflict) (sym len) (of-conflict s c.args.conflict c.trail.ensures.laws
    c.requires.conflict)

pub returns : goal.returns
returns c =
    let s : StoreState = c.args.store.now in
    let len : length c.trail.result.now ≡ length s.trail.steps = ap length c.trail.ensures.value
    ∙ length-map s.trail.steps (λ (t : Step). t.lit) in
    root-follows s c.trail.ensures.laws c.requires.level c.in_ok-refuted.refuted
    (subst (λ (p : ℕ). IsTraced s p c.in_ok-refuted.refuted) len c.in_ok-refuted.ensures)
