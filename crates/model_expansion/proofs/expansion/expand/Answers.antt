use Rattle.std.proofs.Common.{Ok, subst}
use Rattle.ground_core.proofs.CallFacts.{keeps-searched}
use Rattle.ground_core.specs.declared.solving.Verdict.{Verdict}
use Rattle.ground_core.specs.Solving.{SolveState, Answers, KeepsCores}
use Rattle.model_expansion.proofs.ExpansionFacts.{shows, cost-of-one}
use Rattle.model_expansion.proofs.expansion.expand.Goals as goal

pub returns-in-Ok-Unsat-clause-expands : goal.returns-in-Ok-Unsat-clause-expands
returns-in-Ok-Unsat-clause-expands g c =
    let before : SolveState = g.S.Solve.state c.args.s.now in
    let after : SolveState = g.S.Solve.state c.solve.new.self in
    let answers = subst (λ (w : Verdict). Answers before.problem c.args.assume.now w) c.in-Ok-Unsat.field-0-is
    c.in-Ok-Unsat.ensures.verdict in
    let keeps = subst (λ (w : Verdict). KeepsCores before.cores (Ok w) after.cores) c.in-Ok-Unsat.field-0-is
    c.in-Ok-Unsat.ensures.cores in
    shows before.problem before.cores after.cores c.in-Ok-Unsat.core c.args.assume.now answers keeps

pub returns-in-Ok-Sat-clause-costs : goal.returns-in-Ok-Sat-clause-costs
returns-in-Ok-Sat-clause-costs g c = cost-of-one (g.S.Solve.state c.args.s.now) (g.S.Solve.state c.solve.new.self)
    c.args.budget.now c.solve.new.budget c.solve.ensures.searches c.solve.ensures.spends

pub returns-in-Ok-Unsat-clause-costs : goal.returns-in-Ok-Unsat-clause-costs
returns-in-Ok-Unsat-clause-costs g c = cost-of-one (g.S.Solve.state c.args.s.now) (g.S.Solve.state c.solve.new.self)
    c.args.budget.now c.solve.new.budget c.solve.ensures.searches c.solve.ensures.spends

pub returns-in-Err-clause-costs : goal.returns-in-Err-clause-costs
returns-in-Err-clause-costs g c = cost-of-one (g.S.Solve.state c.args.s.now) (g.S.Solve.state c.solve.new.self)
    c.args.budget.now c.solve.new.budget c.solve.ensures.searches c.solve.ensures.spends

pub returns-in-Ok-Sat-clause-keeps : goal.returns-in-Ok-Sat-clause-keeps
returns-in-Ok-Sat-clause-keeps g c =
    keeps-searched (g.S.Solve.state c.args.s.now) (g.S.Solve.state c.solve.new.self) c.args.budget.now
    c.solve.new.budget c.solve.result c.solve.ensures.problem c.solve.ensures.spends c.solve.ensures.cores

pub returns-in-Ok-Unsat-clause-keeps : goal.returns-in-Ok-Unsat-clause-keeps
returns-in-Ok-Unsat-clause-keeps g c =
    keeps-searched (g.S.Solve.state c.args.s.now) (g.S.Solve.state c.solve.new.self) c.args.budget.now
    c.solve.new.budget c.solve.result c.solve.ensures.problem c.solve.ensures.spends c.solve.ensures.cores

pub returns-in-Err-clause-keeps : goal.returns-in-Err-clause-keeps
returns-in-Err-clause-keeps g c =
    keeps-searched (g.S.Solve.state c.args.s.now) (g.S.Solve.state c.solve.new.self) c.args.budget.now
    c.solve.new.budget c.solve.result c.solve.ensures.problem c.solve.ensures.spends c.solve.ensures.cores
