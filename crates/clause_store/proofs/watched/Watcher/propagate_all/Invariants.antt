use Rattle.std.proofs.Common.{◌-◌, length}
use Rattle.clause_store.proofs.QuietFacts.{Drains}
use Rattle.clause_store.proofs.watched.Watcher.propagate_all.Given as goal

abbrev pub invariant-loop-self : goal.invariant-loop-self
invariant-loop-self l = Drains l.fn.self l.self

abbrev pub decreases-loop-self : goal.decreases-loop-self
decreases-loop-self l = length l.self.trail.values - l.self.queue
