use Rattle.clause_store.proofs.ChangeFacts.{watcher-assign}
use Rattle.clause_store.proofs.watched.Watcher.assign_here.Goals as goal

pub returns-clause-watcher : goal.returns-clause-watcher
returns-clause-watcher c = rw c.assign.ensures.step (watcher-assign c.args.self.now c.args.lit c.args.reason
    c.requires.watcher c.requires.in_range c.requires.unassigned c.requires.reason c.requires.current)
