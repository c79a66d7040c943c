use Rattle.std.proofs.Common.{sym, ap, subst}
use Rattle.ground_core.specs.Solving.{HasCoreWithin, IsKnown}
use Rattle.clause_learning.specs.declared.keeper.Keeper.{Keeper}
use Rattle.clause_learning.specs.Keeping.{kept_of}
use Rattle.clause_learning.specs.SolverState.{SolverState}
use Rattle.clause_learning.specs.GoingOn.{GoesOn, prefix-same}
use Rattle.clause_learning.proofs.KeeperFacts.{cores-prefix}
use Rattle.clause_learning.proofs.SolverFacts.{solver-laws}
use Rattle.clause_learning.proofs.solver.SolverSolve.solve.Goals as goal

pub returns-clause-later : goal.returns-clause-later
returns-clause-later g c =
    let a : Keeper = c.self.inside.keeper in
    let b : Keeper = c.solve.new.self in
    let goes : GoesOn (kept_of a) (kept_of b) = record {
      learnt = c.solve.ensures.spends.prefix;
      moments = (_, c.solve.ensures.spends.moments);
      cores = cores-prefix a.index.cores.items b.index.cores.items c.solve.result c.solve.ensures.cores;
      additions = prefix-same a.additions.items b.additions.items (ap (λ v. v.items) c.solve.ensures.additions);
    } in
    subst (λ (s : SolverState). GoesOn s.kept (kept_of b)) c.self.view_is goes

pub returns-clause-decided : goal.returns-clause-decided
returns-clause-decided g c has =
    let a : Keeper = c.self.inside.keeper in
    let known = c.solve.ensures.decided (subst (λ (s : SolverState). HasCoreWithin s.kept.cores c.args.assume.now)
    (sym c.self.view_is) has) in
    subst (λ (s : SolverState). IsKnown s.kept.learnt c.solve.new.self.engine.learnt c.args.budget.now
    c.solve.new.budget c.solve.result) c.self.view_is known

pub returns-clause-laws : goal.returns-clause-laws
returns-clause-laws g c = solver-laws c.solve.new.self c.solve.ensures.keeper
