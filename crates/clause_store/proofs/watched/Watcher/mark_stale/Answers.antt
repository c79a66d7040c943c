use Rattle.clause_store.proofs.ChangeFacts.{watcher-stale}
use Rattle.clause_store.proofs.watched.Watcher.mark_stale.Goals as goal

pub returns-clause-watcher : goal.returns-clause-watcher
returns-clause-watcher c = watcher-stale c.args.self.now c.requires.watcher
