use Rattle.std.proofs.Common.{Ok, subst}
use Rattle.ground_core.proofs.CallFacts.{keeps-searched}
use Rattle.ground_core.specs.declared.solving.Verdict.{Verdict}
use Rattle.ground_core.specs.Solving.{SolveState, Answers, KeepsCores}
use Rattle.ground_core.proofs.CoreFacts.{refused}
use Rattle.model_minimiser.proofs.descent.search.Goals as goal

pub returns-in-Ok-Unsat-clause-finds : goal.returns-in-Ok-Unsat-clause-finds
returns-in-Ok-Unsat-clause-finds g c =
    let before : SolveState = g.S.Solve.state c.args.s.now in
    let after : SolveState = g.S.Solve.state c.solve.new.self in
    let core = c.in-Ok-Unsat.field-0-0 in
    let answers = subst (λ (w : Verdict). Answers before.problem c.args.assume.now w) c.in-Ok-Unsat.field-0-is
    c.in-Ok-Unsat.ensures.verdict in
    let keeps = subst (λ (w : Verdict). KeepsCores before.cores (Ok w) after.cores) c.in-Ok-Unsat.field-0-is
    c.in-Ok-Unsat.ensures.cores in
    refused before.problem before.cores after.cores core c.args.assume.now answers keeps

pub returns-in-Ok-Sat-clause-keeps : goal.returns-in-Ok-Sat-clause-keeps
returns-in-Ok-Sat-clause-keeps g c =
    keeps-searched (g.S.Solve.state c.args.s.now) (g.S.Solve.state c.solve.new.self) c.args.budget.now
    c.solve.new.budget c.solve.result c.solve.ensures.problem c.solve.ensures.spends c.solve.ensures.cores

pub returns-in-Ok-Unsat-clause-keeps : goal.returns-in-Ok-Unsat-clause-keeps
returns-in-Ok-Unsat-clause-keeps g c =
    keeps-searched (g.S.Solve.state c.args.s.now) (g.S.Solve.state c.solve.new.self) c.args.budget.now
    c.solve.new.budget c.solve.result c.solve.ensures.problem c.solve.ensures.spends c.solve.ensures.cores

pub returns-clause-keeps : goal.returns-clause-keeps
returns-clause-keeps g c =
    keeps-searched (g.S.Solve.state c.args.s.now) (g.S.Solve.state c.solve.new.self) c.args.budget.now
    c.solve.new.budget c.solve.result c.solve.ensures.problem c.solve.ensures.spends c.solve.ensures.cores
