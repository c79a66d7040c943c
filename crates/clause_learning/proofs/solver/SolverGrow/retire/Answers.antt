use Rattle.std.proofs.Common.{◌≡◌, Contains, sym, subst, ⊎_elim}
use Rattle.lit_core.proofs.LiteralFacts.{decide_member}
use Rattle.ground_core.specs.Solving.{SolveState}
use Rattle.clause_learning.specs.declared.keeper.Keeper.{Keeper}
use Rattle.clause_learning.specs.Keeping.{kept_of}
use Rattle.clause_learning.specs.SolverState.{SolverState}
use Rattle.clause_learning.specs.GoingOn.{GoesOn, goes-itself, prefix-itself}
use Rattle.clause_learning.proofs.SolverFacts.{solver-laws}
use Rattle.clause_learning.proofs.solver.SolverGrow.retire.Goals as goal

pub returns-clause-already : goal.returns-clause-already
returns-clause-already g c = λ has.
    subst (λ (x : SolverState). kept_of c.retire.new.self ≡ x.kept) c.self.view_is
    (c.retire.ensures.already (subst (λ (x : SolverState). Contains x.kept.problem.retired c.args.selector)
    (sym c.self.view_is) has))

pub returns-clause-later : goal.returns-clause-later
returns-clause-later g c =
    let a : Keeper = c.self.inside.keeper in
    let s : SolveState = kept_of a in
    let t : SolveState = kept_of c.retire.new.self in
    let goes : GoesOn s t = ⊎_elim
    (λ has. subst (GoesOn s) (sym (c.retire.ensures.already has)) (goes-itself s))
    (λ not. subst (GoesOn s) (sym (c.retire.ensures.retired not)) (record {
      learnt = prefix-itself s.learnt;
      moments =
          prefix-itself s.moments;
      cores = prefix-itself s.cores;
      additions = prefix-itself s.additions;
    }))
    (decide_member s.problem.retired c.args.selector) in
    subst (λ (x : SolverState). GoesOn x.kept t) c.self.view_is goes

pub returns-clause-laws : goal.returns-clause-laws
returns-clause-laws g c = solver-laws c.retire.new.self c.retire.ensures.keeper
