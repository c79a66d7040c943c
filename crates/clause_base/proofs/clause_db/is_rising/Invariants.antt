use Rattle.clause_base.proofs.EachOnce.{RisesTo}
use Rattle.clause_base.proofs.clause_db.is_rising.Given as goal

abbrev pub invariant-loop-place : goal.invariant-loop-place
invariant-loop-place l = RisesTo l.lits l.place
