use Rattle.clause_base.specs.ListsState.{nodes_of}
use Rattle.clause_store.specs.Watching.{code_of}
use Rattle.clause_store.proofs.WalkFacts.{Walks, left}
use Rattle.clause_store.proofs.watched.Watcher.propagate_one.Given as goal

abbrev pub invariant-loop-at : goal.invariant-loop-at
invariant-loop-at l = Walks l.fn.self l.self l.falsified l.at l.before

abbrev pub decreases-loop-at : goal.decreases-loop-at
decreases-loop-at l = left (nodes_of l.self.lists (code_of l.falsified)) l.at
