use Rattle.std.proofs.Common.{◌++◌, ◌∷◌, [], List, sym, subst}
use Rattle.lit_core.specs.declared.literals.Lit.{Lit}
use Rattle.ground_core.specs.Problems.{ProblemState, AreLitsOf}
use Rattle.ground_core.specs.Solving.{SolveState, AreUnretired}
use Rattle.lit_core.specs.Literals.{negated}
use Rattle.term_values.specs.GroundBases.{GroundBase}
use Rattle.support_explainer.specs.Reasons.{FindsSupport}
use Rattle.ground_task.specs.Choices.{AreChosen}
use Rattle.ground_task.proofs.TaskFacts.{problem-lits, not-retired, shown-of}
use Rattle.task_queries.proofs.ReasonFacts.{reason-ends, no-model, is-false, supports, opposite, opposed}
use Rattle.task_queries.proofs.supporting.support.Goals as goal

pub support-requires-clause-assumed : goal.support-requires-clause-assumed
support-requires-clause-assumed g c =
    let p : ProblemState = (g.S.Solve.state c.args.task.now.solver).problem in
    subst (AreLitsOf p.vars) (sym c.as_slice.ensures.value)
    (problem-lits c.requires.task.0 c.args.task.now.numbers p c.requires.task.1 c.args.choices.now c.in-Ok.lits.items
    c.in-Ok.ensures c.known.ensures.kept.problem)

pub support-requires-clause-unretired : goal.support-requires-clause-unretired
support-requires-clause-unretired g c =
    let p : ProblemState = (g.S.Solve.state c.args.task.now.solver).problem in
    subst (AreUnretired p) (sym c.as_slice.ensures.value)
    (not-retired c.requires.task.0 c.args.task.now.numbers p c.requires.task.1 c.args.choices.now c.in-Ok.lits.items
    c.in-Ok.ensures)

pub support-requires-clause-literals : goal.support-requires-clause-literals
support-requires-clause-literals g c =
    let p : ProblemState = (g.S.Solve.state c.args.task.now.solver).problem in
    let target : Lit = c.lit_of-target.result in
    subst (λ (ls : List Lit). AreLitsOf p.vars (ls ++ negated target ∷ [])) (sym c.as_slice.ensures.value)
    (problem-lits c.requires.task.0 c.args.task.now.numbers p c.requires.task.1
    (c.args.choices.now ++ opposite c.args.literal.now ∷ []) (c.in-Ok.lits.items ++ negated target ∷ [])
    (opposed c.args.task.now.numbers c.args.choices.now c.in-Ok.lits.items c.args.literal.now target c.in-Ok.ensures
    c.lit_of-target.ensures) c.known.ensures.kept.problem)

pub support-requires-clause-all_unretired : goal.support-requires-clause-all_unretired
support-requires-clause-all_unretired g c =
    let p : ProblemState = (g.S.Solve.state c.args.task.now.solver).problem in
    let target : Lit = c.lit_of-target.result in
    subst (λ (ls : List Lit). AreUnretired p (ls ++ negated target ∷ [])) (sym c.as_slice.ensures.value)
    (not-retired c.requires.task.0 c.args.task.now.numbers p c.requires.task.1
    (c.args.choices.now ++ opposite c.args.literal.now ∷ []) (c.in-Ok.lits.items ++ negated target ∷ [])
    (opposed c.args.task.now.numbers c.args.choices.now c.in-Ok.lits.items c.args.literal.now target c.in-Ok.ensures
    c.lit_of-target.ensures))

pub returns-in-Ok-chosen_among-clause-answer : goal.returns-in-Ok-chosen_among-clause-answer
returns-in-Ok-chosen_among-clause-answer g c = λ base h.
    let p : ProblemState = (g.S.Solve.state c.args.task.now.solver).problem in
    let t : SolveState = g.S.Solve.state c.support.new.s.solver in
    let target : Lit = c.lit_of-target.result in
    let found = subst (λ (ls : List Lit). FindsSupport p ls target t.cores c.in-Ok-By.field-0) c.as_slice.ensures.value
    c.in-Ok-By.ensures.finds in
    let told = subst (FindsSupport p c.in-Ok.lits.items target t.cores) c.in-Ok-By.field-0-is found in
    let chosen = subst (λ (core : List Lit). AreChosen c.args.task.now.numbers c.args.choices.now core
    c.in-Ok-chosen_among.some) c.as_slice-in-Ok-By-2.ensures
    (subst (λ (b : GroundBase). AreChosen b c.args.choices.now c.as_slice-in-Ok-By-2.result.now
    c.in-Ok-chosen_among.some) (sym c.support.ensures.later.1) c.in-Ok-chosen_among.ensures) in
    supports base c.args.task.now.numbers p h c.args.literal.now target c.lit_of-target.ensures c.args.choices.now
    c.in-Ok-chosen_among.some c.in-Ok.lits.items c.in-Ok-By.core t.cores c.in-Ok.ensures chosen told.0 told.2

pub returns-in-Ok-Free-clause-answer : goal.returns-in-Ok-Free-clause-answer
returns-in-Ok-Free-clause-answer g c = λ base h.
    let p : ProblemState = (g.S.Solve.state c.args.task.now.solver).problem in
    let t : SolveState = g.S.Solve.state c.support.new.s.solver in
    let target : Lit = c.lit_of-target.result in
    let found = subst (λ (ls : List Lit). FindsSupport p ls target t.cores c.in-Ok-Free.field-0)
    c.as_slice.ensures.value c.in-Ok-Free.ensures.finds in
    let told = subst (FindsSupport p c.in-Ok.lits.items target t.cores) c.in-Ok-Free.field-0-is found in
    is-false base c.args.task.now.numbers p h c.args.literal.now target c.lit_of-target.ensures c.args.choices.now
    c.in-Ok.lits.items c.in-Ok.ensures _ told.1 told.2 told.3

pub returns-in-Ok-Inconsistent-clause-answer : goal.returns-in-Ok-Inconsistent-clause-answer
returns-in-Ok-Inconsistent-clause-answer g c = λ base h.
    let p : ProblemState = (g.S.Solve.state c.args.task.now.solver).problem in
    let t : SolveState = g.S.Solve.state c.support.new.s.solver in
    let target : Lit = c.lit_of-target.result in
    let found = subst (λ (ls : List Lit). FindsSupport p ls target t.cores c.in-Ok-Inconsistent.field-0)
    c.as_slice.ensures.value c.in-Ok-Inconsistent.ensures.finds in
    let told = subst (FindsSupport p c.in-Ok.lits.items target t.cores) c.in-Ok-Inconsistent.field-0-is found in
    no-model base c.args.task.now.numbers p h c.args.choices.now c.in-Ok.lits.items c.in-Ok.ensures told.0

pub returns-in-Ok-chosen_among-clause-ends : goal.returns-in-Ok-chosen_among-clause-ends
returns-in-Ok-chosen_among-clause-ends g c =
    reason-ends c.args.task.now.numbers c.args.choices.now c.in-Ok.lits.items c.as_slice.result.now c.in-Ok.ensures
    c.as_slice.ensures.value (g.S.Solve.state c.args.task.now.solver) (g.S.Solve.state c.support.new.s.solver)
    c.args.budget.now c.support.new.budget c.support.ensures.stays c.support.ensures.keeps c.support.ensures.costs
    c.support.ensures.kept

pub returns-in-Ok-By-clause-ends : goal.returns-in-Ok-By-clause-ends
returns-in-Ok-By-clause-ends g c =
    reason-ends c.args.task.now.numbers c.args.choices.now c.in-Ok.lits.items c.as_slice.result.now c.in-Ok.ensures
    c.as_slice.ensures.value (g.S.Solve.state c.args.task.now.solver) (g.S.Solve.state c.support.new.s.solver)
    c.args.budget.now c.support.new.budget c.support.ensures.stays c.support.ensures.keeps c.support.ensures.costs
    c.support.ensures.kept

pub returns-in-Ok-Free-clause-ends : goal.returns-in-Ok-Free-clause-ends
returns-in-Ok-Free-clause-ends g c =
    reason-ends c.args.task.now.numbers c.args.choices.now c.in-Ok.lits.items c.as_slice.result.now c.in-Ok.ensures
    c.as_slice.ensures.value (g.S.Solve.state c.args.task.now.solver) (g.S.Solve.state c.support.new.s.solver)
    c.args.budget.now c.support.new.budget c.support.ensures.stays c.support.ensures.keeps c.support.ensures.costs
    c.support.ensures.kept

pub returns-in-Ok-Inconsistent-clause-ends : goal.returns-in-Ok-Inconsistent-clause-ends
returns-in-Ok-Inconsistent-clause-ends g c =
    reason-ends c.args.task.now.numbers c.args.choices.now c.in-Ok.lits.items c.as_slice.result.now c.in-Ok.ensures
    c.as_slice.ensures.value (g.S.Solve.state c.args.task.now.solver) (g.S.Solve.state c.support.new.s.solver)
    c.args.budget.now c.support.new.budget c.support.ensures.stays c.support.ensures.keeps c.support.ensures.costs
    c.support.ensures.kept

pub returns-clause-ends : goal.returns-clause-ends
returns-clause-ends g c =
    reason-ends c.args.task.now.numbers c.args.choices.now c.in-Ok.lits.items c.as_slice.result.now c.in-Ok.ensures
    c.as_slice.ensures.value (g.S.Solve.state c.args.task.now.solver) (g.S.Solve.state c.support.new.s.solver)
    c.args.budget.now c.support.new.budget c.support.ensures.stays c.support.ensures.keeps c.support.ensures.costs
    c.support.ensures.kept

pub returns-in-Ok-Inconsistent-clause-refuted : goal.returns-in-Ok-Inconsistent-clause-refuted
returns-in-Ok-Inconsistent-clause-refuted g c = λ lits each.
    let p : ProblemState = (g.S.Solve.state c.args.task.now.solver).problem in
    let t : SolveState = g.S.Solve.state c.support.new.s.solver in
    let target : Lit = c.lit_of-target.result in
    let found = subst (λ (ls : List Lit). FindsSupport p ls target t.cores c.in-Ok-Inconsistent.field-0)
    c.as_slice.ensures.value c.in-Ok-Inconsistent.ensures.finds in
    let told = subst (FindsSupport p c.in-Ok.lits.items target t.cores) c.in-Ok-Inconsistent.field-0-is found in
    shown-of c.requires.task.0 c.args.task.now.numbers p c.requires.task.1 c.args.choices.now c.in-Ok.lits.items lits
    c.in-Ok.ensures each t.cores told.1
