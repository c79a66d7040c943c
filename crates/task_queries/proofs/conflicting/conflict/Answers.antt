use Rattle.std.proofs.Common.{List, sym, subst}
use Rattle.lit_core.specs.declared.literals.Lit.{Lit}
use Rattle.ground_core.specs.Problems.{ProblemState, AreLitsOf}
use Rattle.ground_core.specs.Solving.{SolveState, AreUnretired}
use Rattle.term_values.specs.GroundBases.{GroundBase}
use Rattle.support_explainer.specs.Reasons.{FindsConflict}
use Rattle.ground_task.specs.Choices.{AreChosen}
use Rattle.ground_task.proofs.TaskFacts.{problem-lits, not-retired}
use Rattle.task_queries.proofs.ReasonFacts.{reason-ends, some-model, conflicts}
use Rattle.task_queries.proofs.conflicting.conflict.Goals as goal

pub conflict-requires-clause-literals : goal.conflict-requires-clause-literals
conflict-requires-clause-literals g c =
    let p : ProblemState = (g.S.Solve.state c.args.task.now.solver).problem in
    subst (AreLitsOf p.vars) (sym c.as_slice.ensures.value)
    (problem-lits c.requires.task.0 c.args.task.now.numbers p c.requires.task.1 c.args.choices.now c.in-Ok.lits.items
    c.in-Ok.ensures c.known.ensures.kept.problem)

pub conflict-requires-clause-unretired : goal.conflict-requires-clause-unretired
conflict-requires-clause-unretired g c =
    let p : ProblemState = (g.S.Solve.state c.args.task.now.solver).problem in
    subst (AreUnretired p) (sym c.as_slice.ensures.value)
    (not-retired c.requires.task.0 c.args.task.now.numbers p c.requires.task.1 c.args.choices.now c.in-Ok.lits.items
    c.in-Ok.ensures)

pub returns-in-Ok-chosen_among-clause-answer : goal.returns-in-Ok-chosen_among-clause-answer
returns-in-Ok-chosen_among-clause-answer g c = λ base h.
    let p : ProblemState = (g.S.Solve.state c.args.task.now.solver).problem in
    let t : SolveState = g.S.Solve.state c.conflict.new.s.solver in
    let found = subst (λ (ls : List Lit). FindsConflict p ls t.cores c.in-Ok-Some.field-0) c.as_slice.ensures.value
    c.in-Ok-Some.ensures.finds in
    let told = subst (FindsConflict p c.in-Ok.lits.items t.cores) c.in-Ok-Some.field-0-is found in
    let chosen = subst (λ (core : List Lit). AreChosen c.args.task.now.numbers c.args.choices.now core
    c.in-Ok-chosen_among.some) c.as_slice-in-Ok-Some-2.ensures
    (subst (λ (b : GroundBase). AreChosen b c.args.choices.now c.as_slice-in-Ok-Some-2.result.now
    c.in-Ok-chosen_among.some) (sym c.conflict.ensures.later.1) c.in-Ok-chosen_among.ensures) in
    conflicts base c.args.task.now.numbers p h c.args.choices.now c.in-Ok-chosen_among.some c.in-Ok-Some.core t.cores
    chosen told.1

pub returns-in-Ok-None-clause-answer : goal.returns-in-Ok-None-clause-answer
returns-in-Ok-None-clause-answer g c = λ base h.
    let p : ProblemState = (g.S.Solve.state c.args.task.now.solver).problem in
    let t : SolveState = g.S.Solve.state c.conflict.new.s.solver in
    let found = subst (λ (ls : List Lit). FindsConflict p ls t.cores c.in-Ok-None.field-0) c.as_slice.ensures.value
    c.in-Ok-None.ensures.finds in
    let told = subst (FindsConflict p c.in-Ok.lits.items t.cores) c.in-Ok-None.field-0-is found in
    some-model base c.args.task.now.numbers p h c.args.choices.now c.in-Ok.lits.items c.in-Ok.ensures told

pub returns-in-Ok-chosen_among-clause-ends : goal.returns-in-Ok-chosen_among-clause-ends
returns-in-Ok-chosen_among-clause-ends g c =
    reason-ends c.args.task.now.numbers c.args.choices.now c.in-Ok.lits.items c.as_slice.result.now c.in-Ok.ensures
    c.as_slice.ensures.value (g.S.Solve.state c.args.task.now.solver) (g.S.Solve.state c.conflict.new.s.solver)
    c.args.budget.now c.conflict.new.budget c.conflict.ensures.stays c.conflict.ensures.keeps c.conflict.ensures.costs
    c.conflict.ensures.kept

pub returns-in-Ok-Some-clause-ends : goal.returns-in-Ok-Some-clause-ends
returns-in-Ok-Some-clause-ends g c =
    reason-ends c.args.task.now.numbers c.args.choices.now c.in-Ok.lits.items c.as_slice.result.now c.in-Ok.ensures
    c.as_slice.ensures.value (g.S.Solve.state c.args.task.now.solver) (g.S.Solve.state c.conflict.new.s.solver)
    c.args.budget.now c.conflict.new.budget c.conflict.ensures.stays c.conflict.ensures.keeps c.conflict.ensures.costs
    c.conflict.ensures.kept

pub returns-in-Ok-None-clause-ends : goal.returns-in-Ok-None-clause-ends
returns-in-Ok-None-clause-ends g c =
    reason-ends c.args.task.now.numbers c.args.choices.now c.in-Ok.lits.items c.as_slice.result.now c.in-Ok.ensures
    c.as_slice.ensures.value (g.S.Solve.state c.args.task.now.solver) (g.S.Solve.state c.conflict.new.s.solver)
    c.args.budget.now c.conflict.new.budget c.conflict.ensures.stays c.conflict.ensures.keeps c.conflict.ensures.costs
    c.conflict.ensures.kept

pub returns-clause-ends : goal.returns-clause-ends
returns-clause-ends g c =
    reason-ends c.args.task.now.numbers c.args.choices.now c.in-Ok.lits.items c.as_slice.result.now c.in-Ok.ensures
    c.as_slice.ensures.value (g.S.Solve.state c.args.task.now.solver) (g.S.Solve.state c.conflict.new.s.solver)
    c.args.budget.now c.conflict.new.budget c.conflict.ensures.stays c.conflict.ensures.keeps c.conflict.ensures.costs
    c.conflict.ensures.kept
