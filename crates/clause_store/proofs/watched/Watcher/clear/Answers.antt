use Rattle.clause_store.proofs.ChangeFacts.{watcher-cleared}
use Rattle.clause_store.proofs.watched.Watcher.clear.Goals as goal

pub returns-clause-watcher : goal.returns-clause-watcher
returns-clause-watcher c = watcher-cleared c.args.self.now c.clear-2.new.self c.clear.new.self c.requires.watcher
    c.clear.ensures.cleared c.clear-2.ensures.laws c.clear-2.ensures.labels c.clear-2.ensures.count
    c.clear-2.ensures.empty
