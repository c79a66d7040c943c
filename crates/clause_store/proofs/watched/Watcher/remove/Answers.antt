use Rattle.std.proofs.Common.{sym, subst}
use Rattle.clause_base.specs.ClauseDbState.{ClauseDbState}
use Rattle.clause_base.proofs.StoreFacts.{store-removed}
use Rattle.clause_store.specs.Watching.{store_of, IsWatcher}
use Rattle.clause_store.proofs.ReleaseFacts.{watcher-without, with_held}
use Rattle.clause_store.proofs.watched.Watcher.remove.Goals as goal

pub returns-clause-watcher : goal.returns-clause-watcher
returns-clause-watcher c = subst (λ (x : ClauseDbState). IsWatcher (with_held c.args.self.now x)) (sym c.remove.ensures)
    (watcher-without c.args.self.now c.args.id c.requires.watcher
    (store-removed (store_of c.args.self.now) c.args.id c.requires.watcher.store c.requires.unassigned))
