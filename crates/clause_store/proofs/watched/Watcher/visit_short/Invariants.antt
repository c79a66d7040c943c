use Rattle.clause_store.proofs.ShortWalk.{Meets}
use Rattle.clause_store.proofs.watched.Watcher.visit_short.Given as goal

abbrev pub invariant-loop-place : goal.invariant-loop-place
invariant-loop-place l = Meets l.fn.self l.self l.falsified l.place
