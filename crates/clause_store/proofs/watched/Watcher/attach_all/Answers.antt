use Rattle.clause_store.specs.Watching.{store_of}
use Rattle.clause_base.proofs.PropagateFacts.{propagates-trans}
use Rattle.clause_store.proofs.watched.Watcher.attach_all.Goals as goal

pub returns-in-Some-clause-same : goal.returns-in-Some-clause-same
returns-in-Some-clause-same c = propagates-trans (store_of c.args.self.now) (store_of c.loop-self.self)
    (store_of c.attach_next.new.self) c.loop-self.invariant.same c.attach_next.ensures.same

pub loop-self-preserved : goal.loop-self-preserved
loop-self-preserved c = record {
  watcher = c.attach_next.ensures.watcher;
  same = propagates-trans (store_of c.args.self.now) (store_of c.loop-self.self) (store_of c.attach_next.new.self)
      c.loop-self.invariant.same c.attach_next.ensures.same;
}
