use Rattle.std.proofs.Common.{Some, sym, subst, refl}
use Rattle.clause_base.specs.declared.trail.Step.{Step}
use Rattle.clause_base.specs.StoreState.{StoreState, Propagates}
use Rattle.clause_store.specs.Watching.{store_of}
use Rattle.clause_base.proofs.PropagateFacts.{propagates-refl, propagates-step}
use Rattle.clause_store.proofs.watched.Watcher.make_true.Goals as goal

pub returns-in-None-clause-same : goal.returns-in-None-clause-same
returns-in-None-clause-same c =
    let s : StoreState = store_of c.args.self.now in
    let t : Step = record { lit = c.args.lit; level = s.trail.level; reason = Some c.args.self.now.checked } in
    subst (Propagates s) (sym c.assign_here.ensures.step) (propagates-step s s t (propagates-refl s) refl refl)

pub returns-in-Some-clause-same : goal.returns-in-Some-clause-same
returns-in-Some-clause-same c = propagates-refl (store_of c.args.self.now)
