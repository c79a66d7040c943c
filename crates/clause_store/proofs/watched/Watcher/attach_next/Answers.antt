use Rattle.clause_store.proofs.watched.Watcher.attach_next.Goals as goal
use Rattle.std.proofs.Common.{arith}
use Rattle.std.proofs.lemmas.Grind.{elements}

pub returns-in-Unwatched-clause-same : goal.returns-in-Unwatched-clause-same
returns-in-Unwatched-clause-same c = grind (arith, elements)

pub returns-in-Two-clause-same : goal.returns-in-Two-clause-same
returns-in-Two-clause-same c = grind (arith, elements)

pub returns-in-Conflict-clause-same : goal.returns-in-Conflict-clause-same
returns-in-Conflict-clause-same c = grind (arith, elements)
