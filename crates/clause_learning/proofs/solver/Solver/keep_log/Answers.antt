use Rattle.clause_learning.proofs.KeeperFacts.{keeper-logged, logged}
use Rattle.clause_learning.proofs.SolverFacts.{solver-laws}
use Rattle.clause_learning.proofs.solver.Solver.keep_log.Goals as goal

pub invariant_of-self : goal.invariant_of-self
invariant_of-self g c = keeper-logged c.self.inside.keeper c.begin.new.self c.self.invariant

pub returns-clause-laws : goal.returns-clause-laws
returns-clause-laws g c = solver-laws (logged c.self.inside.keeper c.begin.new.self)
    (keeper-logged c.self.inside.keeper c.begin.new.self c.self.invariant)
