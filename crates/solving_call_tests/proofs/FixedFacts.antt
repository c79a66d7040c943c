-- Where a fixed literal stands on the trail.
use Rattle.std.proofs.Common.{◌≡◌, false, Some, None, sym, ap, ◌∙◌, slice_get}
use Rattle.std.proofs.lemmas.Option.{same_Some}
use Rattle.lit_core.specs.declared.literals.Lit.{Lit}
use Rattle.lit_core.specs.declared.literals.Var.{Var}
use Rattle.lit_core.specs.Literals.{negated, value_in}
use Rattle.clause_store.specs.declared.trails.Step.{Step}
use Rattle.clause_store.specs.TrailState.{TrailState}
use Rattle.clause_store.specs.TrailLaws.{IsTrail, IsFixed, IsStepOf}
use Rattle.clause_store.proofs.WatchFacts.{made-false}

-- the negation of a fixed literal is false
pub fixed-false : (s : TrailState) → IsTrail s → (l : Lit) → IsFixed s (negated l) → value_in s.values l ≡ Some false
fixed-false s h l f = made-false s.values s.steps l h.coherent f.0 f.1 f.2 f.3

-- and its variable's step is of level 0 and has no reason
pub fixed-step : (s : TrailState) → IsTrail s → (l : Lit) → IsFixed s (negated l) → (t : Step) → IsStepOf s l.var t
    → (t.level ≡ 0) × (t.reason ≡ None)
fixed-step s h l f t w =
    let vars : f.1.lit.var.0 ≡ t.lit.var.0 = ap (λ (x : Lit). x.var.0) f.3 ∙ ap (λ (v : Var). v.0) (sym w.2) in
    let at : f.0 ≡ w.0 = h.coherent.apart f.0 w.0 f.1 t f.2 w.1 vars in
    let same : f.1 ≡ t = same_Some f.1 t (sym f.2 ∙ ap (slice_get s.steps) at ∙ w.1) in
    (ap (λ (x : Step). x.level) (sym same) ∙ f.4, ap (λ (x : Step). x.reason) (sym same) ∙ f.5)
