use Rattle.clause_store.proofs.AttachFacts.{rest-watcher}
use Rattle.clause_store.proofs.watched.Watcher.skip_rest.Goals as goal

pub returns-clause-watcher : goal.returns-clause-watcher
returns-clause-watcher c = rest-watcher c.args.self.now c.len-self.result c.requires.watcher c.len-self.ensures
    c.requires.gone
