use Rattle.std.proofs.Common.{◌-◌, length}
use Rattle.clause_store.proofs.QuietFacts.{Attaches}
use Rattle.clause_store.proofs.watched.Watcher.attach_all.Given as goal

abbrev pub invariant-loop-self : goal.invariant-loop-self
invariant-loop-self l = Attaches l.fn.self l.self

abbrev pub decreases-loop-self : goal.decreases-loop-self
decreases-loop-self l = length l.self.held.clauses - l.self.checked
