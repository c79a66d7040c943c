use Rattle.clause_store.proofs.AttachFacts.{skip-watcher}
use Rattle.clause_store.proofs.watched.Watcher.skip.Goals as goal

pub returns-clause-watcher : goal.returns-clause-watcher
returns-clause-watcher c = skip-watcher c.args.self.now c.requires.watcher c.requires.more c.requires.passed
