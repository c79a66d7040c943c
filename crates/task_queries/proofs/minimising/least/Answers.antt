use Rattle.std.proofs.Common.{List, sym, ap, ◌∙◌, subst}
use Rattle.lit_core.specs.declared.literals.Lit.{Lit}
use Rattle.ground_core.specs.Problems.{ProblemState, AreLitsOf}
use Rattle.ground_core.specs.Solving.{SolveState, AreUnretired}
use Rattle.lit_core.specs.Literals.{valuation}
use Rattle.kb_logic.specs.Answers.{IsLeast}
use Rattle.term_values.specs.GroundBases.{GroundBase, structure_of}
use Rattle.model_minimiser.specs.Minima.{FindsLeast}
use Rattle.ground_task.proofs.TaskFacts.{problem-lits, not-retired, shown-of}
use Rattle.task_queries.specs.Queries.{under}
use Rattle.task_queries.proofs.ReasonFacts.{no-model}
use Rattle.task_queries.proofs.ModelFacts.{task-grows}
use Rattle.task_queries.proofs.LeastFacts.{is-least}
use Rattle.task_queries.proofs.minimising.least.Goals as goal

pub least-requires-clause-literals : goal.least-requires-clause-literals
least-requires-clause-literals g c =
    let p : ProblemState = (g.S.Solve.state c.args.task.now.solver).problem in
    subst (AreLitsOf p.vars) (sym c.as_slice.ensures.value)
    (problem-lits c.requires.task.0 c.args.task.now.numbers p c.requires.task.1 c.args.choices.now c.in-Ok.lits.items
    c.in-Ok.ensures c.known.ensures.kept.problem)

pub least-requires-clause-unretired : goal.least-requires-clause-unretired
least-requires-clause-unretired g c =
    let p : ProblemState = (g.S.Solve.state c.args.task.now.solver).problem in
    subst (AreUnretired p) (sym c.as_slice.ensures.value)
    (not-retired c.requires.task.0 c.args.task.now.numbers p c.requires.task.1 c.args.choices.now c.in-Ok.lits.items
    c.in-Ok.ensures)

pub returns-in-Ok-None-clause-answer : goal.returns-in-Ok-None-clause-answer
returns-in-Ok-None-clause-answer g c = λ base h.
    let p : ProblemState = (g.S.Solve.state c.args.task.now.solver).problem in
    let t : SolveState = g.S.Solve.state c.least.new.s.solver in
    let found = subst (λ (ls : List Lit). FindsLeast p ls c.args.term t.cores t.problem.bounds c.in-Ok-None.field-0)
    c.as_slice.ensures.value c.in-Ok-None.ensures.least in
    let told = subst (FindsLeast p c.in-Ok.lits.items c.args.term t.cores t.problem.bounds)
    c.in-Ok-None.field-0-is found in
    no-model base c.args.task.now.numbers p h c.args.choices.now c.in-Ok.lits.items c.in-Ok.ensures told.0

pub returns-in-Ok-structure_of-clause-answer : goal.returns-in-Ok-structure_of-clause-answer
returns-in-Ok-structure_of-clause-answer g c = λ base h.
    let p : ProblemState = (g.S.Solve.state c.args.task.now.solver).problem in
    let t : SolveState = g.S.Solve.state c.least.new.s.solver in
    let found = subst (λ (ls : List Lit). FindsLeast p ls c.args.term t.cores t.problem.bounds c.in-Ok-Some.field-0)
    c.as_slice.ensures.value c.in-Ok-Some.ensures.least in
    let told = subst (FindsLeast p c.in-Ok.lits.items c.args.term t.cores t.problem.bounds)
    c.in-Ok-Some.field-0-is found in
    subst (IsLeast base (under c.args.choices.now) c.args.term c.in-Ok-Some.minimum.value)
    (ap (λ (b : GroundBase). structure_of b (valuation c.in-Ok-Some.minimum.values)) c.least.ensures.later.1
    ∙ sym c.in-Ok-structure_of.ensures)
    (is-least base c.args.task.now.numbers p h c.args.choices.now c.in-Ok.lits.items c.in-Ok.ensures c.args.term t.cores
    t.problem.bounds c.in-Ok-Some.minimum told c.requires.term)

pub returns-in-Ok-None-clause-task : goal.returns-in-Ok-None-clause-task
returns-in-Ok-None-clause-task g c = λ base h.
    task-grows base c.args.task.now.numbers c.least.new.s.numbers (g.S.Solve.state c.args.task.now.solver).problem
    (g.S.Solve.state c.least.new.s.solver).problem (sym c.least.ensures.later.1) c.known.ensures.kept.problem
    c.least.ensures.grows h

pub returns-in-Err-clause-task : goal.returns-in-Err-clause-task
returns-in-Err-clause-task g c = λ base h.
    task-grows base c.args.task.now.numbers c.least.new.s.numbers (g.S.Solve.state c.args.task.now.solver).problem
    (g.S.Solve.state c.least.new.s.solver).problem (sym c.least.ensures.later.1) c.known.ensures.kept.problem
    c.least.ensures.grows h

pub returns-in-Ok-structure_of-clause-task : goal.returns-in-Ok-structure_of-clause-task
returns-in-Ok-structure_of-clause-task g c = λ base h.
    task-grows base c.args.task.now.numbers c.least.new.s.numbers (g.S.Solve.state c.args.task.now.solver).problem
    (g.S.Solve.state c.least.new.s.solver).problem (sym c.least.ensures.later.1) c.known.ensures.kept.problem
    c.least.ensures.grows h

pub returns-clause-task : goal.returns-clause-task
returns-clause-task g c = λ base h.
    task-grows base c.args.task.now.numbers c.least.new.s.numbers (g.S.Solve.state c.args.task.now.solver).problem
    (g.S.Solve.state c.least.new.s.solver).problem (sym c.least.ensures.later.1) c.known.ensures.kept.problem
    c.least.ensures.grows h

pub returns-in-Ok-None-clause-ends : goal.returns-in-Ok-None-clause-ends
returns-in-Ok-None-clause-ends g c = λ n spans. record {
  keeps = c.least.ensures.keeps;
  costs = c.least.ensures.costs n spans;
  kept = c.least.ensures.kept;
  free = c.least.ensures.adds.grows.free;
}

pub returns-in-Err-clause-ends : goal.returns-in-Err-clause-ends
returns-in-Err-clause-ends g c = λ n spans. record {
  keeps = c.least.ensures.keeps;
  costs = c.least.ensures.costs n spans;
  kept = c.least.ensures.kept;
  free = c.least.ensures.adds.grows.free;
}

pub returns-in-Ok-structure_of-clause-ends : goal.returns-in-Ok-structure_of-clause-ends
returns-in-Ok-structure_of-clause-ends g c = λ n spans. record {
  keeps = c.least.ensures.keeps;
  costs = c.least.ensures.costs n spans;
  kept = c.least.ensures.kept;
  free = c.least.ensures.adds.grows.free;
}

pub returns-clause-ends : goal.returns-clause-ends
returns-clause-ends g c = λ n spans. record {
  keeps = c.least.ensures.keeps;
  costs = c.least.ensures.costs n spans;
  kept = c.least.ensures.kept;
  free = c.least.ensures.adds.grows.free;
}

pub returns-in-Ok-None-clause-refuted : goal.returns-in-Ok-None-clause-refuted
returns-in-Ok-None-clause-refuted g c = λ lits each.
    let p : ProblemState = (g.S.Solve.state c.args.task.now.solver).problem in
    let t : SolveState = g.S.Solve.state c.least.new.s.solver in
    let found = subst (λ (ls : List Lit). FindsLeast p ls c.args.term t.cores t.problem.bounds c.in-Ok-None.field-0)
    c.as_slice.ensures.value c.in-Ok-None.ensures.least in
    let told = subst (FindsLeast p c.in-Ok.lits.items c.args.term t.cores t.problem.bounds)
    c.in-Ok-None.field-0-is found in
    shown-of c.requires.task.0 c.args.task.now.numbers p c.requires.task.1 c.args.choices.now c.in-Ok.lits.items lits
    c.in-Ok.ensures each t.cores told.1
