use Rattle.std.proofs.Common.{◌∙◌, refl, sym, ap, subst}
use Rattle.clause_store.specs.StoreState.{StoreState}
use Rattle.search_engine.specs.declared.engine.Engine.{Engine}
use Rattle.search_engine.specs.Resting.{IsResting, held_of}
use Rattle.search_engine.proofs.Beginning.{resting-cleared, resting-propagated}
use Rattle.search_engine.proofs.DecideFacts.{with_store}
use Rattle.search_engine.proofs.GrowFacts.{same-itself}
use Rattle.search_engine.proofs.engine.Engine.prepare.Goals as goal

pub returns-clause-resting : goal.returns-clause-resting
returns-clause-resting c =
    let e : Engine = c.args.self.now in
    let packed : IsResting (with_store e c.pack-packed.new.self) =
    subst (λ (s : StoreState). IsResting (with_store e s)) (sym c.pack-packed.ensures.same)
    (resting-cleared e c.clear.new.self c.requires.resting c.clear.ensures.cleared c.clear.ensures.laws) in
    resting-propagated (with_store e c.pack-packed.new.self) c.propagate.new.self packed c.propagate.ensures.same
    c.propagate.ensures.laws

pub returns-clause-same : goal.returns-clause-same
returns-clause-same c =
    let e : Engine = c.args.self.now in
    record {
      problem = refl;
      held = ap held_of (c.propagate.ensures.same.clauses
          ∙ ap (λ (s : StoreState). s.clauses) c.pack-packed.ensures.same
          ∙ ap (λ (s : StoreState). s.clauses) c.clear.ensures.cleared);
      same = same-itself e (with_store e c.propagate.new.self) refl refl refl refl refl;
    }
