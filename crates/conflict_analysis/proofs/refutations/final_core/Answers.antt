use Rattle.std.proofs.Common.{◌≡◌, ◌∙◌, Some, ap, slice_get}
use Rattle.lit_core.specs.Literals.{negated}
use Rattle.std.proofs.lemmas.Result.{IfOk-weaker}
use Rattle.lit_core.specs.declared.literals.Var.{Var}
use Rattle.conflict_analysis.specs.Analyses.{IsRefuted}
use Rattle.conflict_analysis.specs.Tracing.{IsTraced}
use Rattle.clause_store.specs.declared.trails.Step.{Step}
use Rattle.clause_store.specs.StoreState.{StoreState}
use Rattle.conflict_analysis.proofs.Places.{same-step, in_range-false, assigned-false, made-at, of-reason}
use Rattle.conflict_analysis.proofs.Traced.{refuted-by}
use Rattle.conflict_analysis.proofs.refutations.final_core.Goals as goal

pub place_of-place-requires-clause-in_range : goal.place_of-place-requires-clause-in_range
place_of-place-requires-clause-in_range c = in_range-false c.args.store.now.trail.values c.args.lit c.requires.is_false

pub place_of-place-requires-clause-assigned : goal.place_of-place-requires-clause-assigned
place_of-place-requires-clause-assigned c = assigned-false c.args.store.now.trail.values c.args.lit c.requires.is_false

pub trace-requires-clause-clause : goal.trace-requires-clause-clause
trace-requires-clause-clause c = of-reason c.args.store.now c.place_of-place.result c.step.result c.in-Some.reason
    c.step.ensures.laws c.step.ensures.step c.in-Some.is

pub returns-in-Some : goal.returns-in-Some
returns-in-Some c =
    let s : StoreState = c.args.store.now in
    let w = c.place_of-place.ensures.step in
    let at : slice_get s.trail.steps c.place_of-place.result ≡ Some c.step.result = c.step.ensures.step in
    let same : c.step.result.lit.var.0 ≡ c.args.lit.var.0 = ap (λ (x : Step). x.lit.var.0)
    (same-step s.trail.steps c.place_of-place.result c.step.result w.0 at w.1) ∙ ap (λ (v : Var). v.0) w.2 in
    let made : c.step.result.lit ≡ negated c.args.lit = made-at s.trail.values s.trail.steps
    c.step.ensures.laws.trail.coherent c.args.lit c.place_of-place.result c.step.result
    c.requires.is_false at same in
    IfOk-weaker c.trace.result (IsTraced s c.place_of-place.result) (IsRefuted s c.args.lit)
    (λ r h. refuted-by s c.place_of-place.result c.step.result at c.args.lit made r h) c.trace.ensures
