use Rattle.clause_store.specs.Watching.{store_of}
use Rattle.clause_base.proofs.PropagateFacts.{propagates-trans}
use Rattle.clause_store.proofs.watched.Watcher.propagate.Goals as goal

pub returns-clause-same : goal.returns-clause-same
returns-clause-same c = propagates-trans (store_of c.args.self.now) (store_of c.attach_all.new.self)
    (store_of c.propagate_all.new.self) c.attach_all.ensures.same c.propagate_all.ensures.same
