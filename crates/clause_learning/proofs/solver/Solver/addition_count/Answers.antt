use Rattle.std.proofs.Common.{subst}
use Rattle.clause_learning.specs.SolverState.{IsSolver}
use Rattle.clause_learning.proofs.SolverFacts.{solver-laws}
use Rattle.clause_learning.proofs.solver.Solver.addition_count.Goals as goal

pub returns-clause-laws : goal.returns-clause-laws
returns-clause-laws g c = subst IsSolver c.self.view_is (solver-laws c.self.inside.keeper c.self.invariant)
