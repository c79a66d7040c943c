use Rattle.clause_store.proofs.watched.Watcher.pick.Goals as goal
use Rattle.std.proofs.Common.{arith}
use Rattle.std.proofs.lemmas.Grind.{elements}

pub offset_bounds-lits-place : goal.offset_bounds-lits-place
offset_bounds-lits-place c = grind (arith, elements)

pub bounds-lits-place : goal.bounds-lits-place
bounds-lits-place c = grind (arith, elements)

pub returns-in-Some-find_replacement : goal.returns-in-Some-find_replacement
returns-in-Some-find_replacement c = grind (arith, elements)
