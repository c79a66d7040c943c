use Rattle.clause_store.proofs.ChangeFacts.{watcher-fix}
use Rattle.clause_store.proofs.watched.Watcher.fix.Goals as goal

pub returns-clause-watcher : goal.returns-clause-watcher
returns-clause-watcher c = rw c.fix.ensures.step (watcher-fix c.args.self.now c.args.lit c.requires.watcher
    c.requires.level c.requires.in_range c.requires.unassigned c.requires.unopposed)
