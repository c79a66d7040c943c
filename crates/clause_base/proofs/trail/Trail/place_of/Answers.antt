use Rattle.std.proofs.Common.{◌≡◌, ap, sym, ◌∙◌, Some, None, get_or, slice_get, subst}
use Rattle.std.proofs.lemmas.Option.{get_or_from_slice_get}
use Rattle.lit_core.specs.declared.literals.Var.{Var}
use Rattle.clause_base.specs.TrailState.{TrailState}
use Rattle.clause_base.proofs.TrailFacts.{made-by}
use Rattle.clause_base.proofs.trail.Trail.place_of.Goals as goal

pub returns : goal.returns
returns c =
    let a = c.self.inside in
    let some : get_or a.assignment c.args.var.0 None ≡ None → ⊥ =
    subst (λ (x : TrailState). get_or x.values c.args.var.0 None ≡ None → ⊥) (sym c.self.view_is)
    c.requires.assigned in
    let m = made-by a.assignment a.steps.items c.self.invariant.laws.coherent c.args.var some in
    let place : get_or a.places.items c.args.var.0 c.index.result.now ≡ m.0 =
    ap (λ (v : Var). get_or a.places.items v.0 c.index.result.now) (sym m.3)
    ∙ get_or_from_slice_get a.places.items m.1.lit.var.0 m.0 c.index.result.now
    (c.self.invariant.places m.0 m.1 m.2) in
    let at : c.index.result.now ≡ m.0 = c.index.ensures ∙ place in
    let here : slice_get a.steps.items c.index.result.now ≡ Some m.1 = ap (slice_get a.steps.items) at ∙ m.2 in
    let same : slice_get c.args.self.now.steps c.index.result.now ≡ Some m.1 =
    subst (λ (x : TrailState). slice_get x.steps c.index.result.now ≡ Some m.1) c.self.view_is here in
    record { step = (m.1, same, m.3) }
