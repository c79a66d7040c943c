use Rattle.std.proofs.Common.{◌∷◌, [], refl, ap, subst}
use Rattle.lit_core.specs.declared.literals.Lit.{Lit}
use Rattle.lit_core.specs.Literals.{negated}
use Rattle.clause_store.specs.StoreState.{StoreState, IsEachOnceOf}
use Rattle.search_engine.specs.declared.engine.Engine.{Engine}
use Rattle.search_engine.proofs.GrowFacts.{resting-same, resting-closed, same-itself}
use Rattle.search_engine.proofs.engine.Engine.close_next.Goals as goal

pub returns-in_err-push_clause-clause-resting : goal.returns-in_err-push_clause-clause-resting
returns-in_err-push_clause-clause-resting c =
    let e : Engine = c.args.self.now in
    resting-same e _ c.requires.resting (record {
      same = same-itself e _ refl refl refl refl refl;
      ids = refl;
      closed =
          refl;
    }) refl (ap (λ (s : StoreState). s.clauses) c.in_err-push_clause.ensures.err)
    (ap (λ (s : StoreState). s.trail) c.in_err-push_clause.ensures.err) c.push_clause.ensures.laws

pub returns-clause-resting : goal.returns-clause-resting
returns-clause-resting c =
    let e : Engine = c.args.self.now in
    let w = c.in_ok-push_clause.ensures.ok in
    let once : IsEachOnceOf (negated c.retired_at-lit.result ∷ []) w.1.0 =
    subst (λ (l : Lit). IsEachOnceOf (l ∷ []) w.1.0) c.negated.ensures w.1.1 in
    resting-closed e _ c.retired_at-lit.result w.1.0 c.requires.resting c.retired_at-lit.ensures once
    (ap (λ (s : StoreState). s.clauses) w.1.2) (ap (λ (s : StoreState). s.trail) w.1.2) c.push_clause.ensures.laws
    refl refl (same-itself e _ refl refl refl refl refl) refl
