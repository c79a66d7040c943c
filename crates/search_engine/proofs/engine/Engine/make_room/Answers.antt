use Rattle.std.proofs.Common.{refl, ap}
use Rattle.clause_store.specs.StoreState.{StoreState}
use Rattle.search_engine.specs.declared.engine.Engine.{Engine}
use Rattle.search_engine.proofs.GrowFacts.{resting-grown, resting-same, same-itself}
use Rattle.search_engine.proofs.engine.Engine.make_room.Goals as goal

pub returns-in_err-reserve_vars-clause-resting : goal.returns-in_err-reserve_vars-clause-resting
returns-in_err-reserve_vars-clause-resting c =
    let e : Engine = c.args.self.now in
    resting-same e _ c.requires.resting (record {
      same = same-itself e _ refl refl refl refl refl;
      ids = refl;
      closed =
          refl;
    }) refl (ap (λ (s : StoreState). s.clauses) c.in_err-reserve_vars.ensures.err)
    (ap (λ (s : StoreState). s.trail) c.in_err-reserve_vars.ensures.err) c.reserve_vars.ensures.laws

pub returns-clause-resting : goal.returns-clause-resting
returns-clause-resting c =
    let e : Engine = c.args.self.now in
    resting-grown e _ c.args.count c.requires.resting (record {
      same = same-itself e _ refl refl refl refl refl;
      ids =
          refl;
      closed = refl;
    }) refl c.in_ok-reserve_vars.ensures.ok c.reserve_vars.ensures.laws
