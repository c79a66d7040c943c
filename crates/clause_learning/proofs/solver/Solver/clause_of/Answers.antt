use Rattle.std.proofs.Common.{subst}
use Rattle.std.specs.Prelude.{IfOk, MatchOption}
use Rattle.ground_core.specs.Solving.{HasCoreWithin}
use Rattle.clause_learning.specs.SolverState.{SolverState}
use Rattle.clause_learning.proofs.solver.Solver.clause_of.Goals as goal

pub returns : goal.returns
returns g c = subst (λ (s : SolverState). IfOk c.number_within.result (λ found. MatchOption found
    (HasCoreWithin s.kept.cores c.args.lits.now → ⊥) (λ number. HasCoreWithin s.kept.cores c.args.lits.now)))
    c.self.view_is c.number_within.ensures
