use Rattle.std.proofs.Common.{Ok, List, sym, subst}
use Rattle.kb_logic.specs.Bases.{IsModelUnder}
use Rattle.lit_core.specs.declared.literals.Lit.{Lit}
use Rattle.lit_core.specs.Literals.{valuation}
use Rattle.ground_core.specs.declared.solving.Verdict.{Verdict}
use Rattle.ground_core.specs.Problems.{ProblemState, AreLitsOf}
use Rattle.ground_core.specs.Solving.{SolveState, AreUnretired, HasCoreWithin, IsRefusal}
use Rattle.model_expansion.specs.Expansions.{Expands}
use Rattle.ground_task.specs.Choices.{AreChosen}
use Rattle.ground_task.proofs.TaskFacts.{problem-lits, not-retired, is-model, has-none, shown-of, halted}
use Rattle.ground_task.proofs.task.Task.ask.Goals as goal

pub expand-requires-clause-literals : goal.expand-requires-clause-literals
expand-requires-clause-literals g c =
    let p : ProblemState = (g.S.Solve.state c.args.self.now.solver).problem in
    subst (AreLitsOf p.vars) (sym c.as_slice.ensures.value)
    (problem-lits c.requires.task.0 c.args.self.now.numbers p c.requires.task.1 c.args.choices.now c.in-Ok.lits.items
    c.in-Ok.ensures c.known.ensures.kept.problem)

pub expand-requires-clause-unretired : goal.expand-requires-clause-unretired
expand-requires-clause-unretired g c =
    let p : ProblemState = (g.S.Solve.state c.args.self.now.solver).problem in
    subst (AreUnretired p) (sym c.as_slice.ensures.value)
    (not-retired c.requires.task.0 c.args.self.now.numbers p c.requires.task.1 c.args.choices.now c.in-Ok.lits.items
    c.in-Ok.ensures)

pub returns-in-Ok-structure_of-clause-answer : goal.returns-in-Ok-structure_of-clause-answer
returns-in-Ok-structure_of-clause-answer g c = λ base h.
    let p : ProblemState = (g.S.Solve.state c.args.self.now.solver).problem in
    let t : SolveState = g.S.Solve.state c.expand.new.s in
    let found = subst (λ (ls : List Lit). Expands p ls t.cores (c.in-Ok-Sat.field-0)) c.as_slice.ensures.value
    c.in-Ok-Sat.ensures.expands in
    let sat = subst (Expands p c.in-Ok.lits.items t.cores) c.in-Ok-Sat.field-0-is found in
    subst (IsModelUnder base c.args.choices.now) (sym c.in-Ok-structure_of.ensures)
    (is-model base c.args.self.now.numbers p h c.args.choices.now c.in-Ok.lits.items c.in-Ok.ensures
    (valuation c.in-Ok-Sat.values) sat.1 sat.2)

pub returns-in-Ok-chosen_among-clause-answer : goal.returns-in-Ok-chosen_among-clause-answer
returns-in-Ok-chosen_among-clause-answer g c = λ base h.
    let p : ProblemState = (g.S.Solve.state c.args.self.now.solver).problem in
    let t : SolveState = g.S.Solve.state c.expand.new.s in
    let found = subst (λ (ls : List Lit). Expands p ls t.cores (c.in-Ok-Unsat.field-0)) c.as_slice.ensures.value
    c.in-Ok-Unsat.ensures.expands in
    let unsat = subst (Expands p c.in-Ok.lits.items t.cores) c.in-Ok-Unsat.field-0-is found in
    let chosen : AreChosen c.args.self.now.numbers c.args.choices.now c.in-Ok-Unsat.core c.in-Ok-chosen_among.some =
    subst (λ (core : List Lit). AreChosen c.args.self.now.numbers c.args.choices.now core c.in-Ok-chosen_among.some)
    c.as_slice-in-Ok-Unsat-2.ensures c.in-Ok-chosen_among.ensures in (
      chosen.among,
      has-none base c.args.self.now.numbers p h c.in-Ok-Unsat.core c.in-Ok-chosen_among.some chosen.each unsat.0.1,
    )

pub returns-in-Ok-chosen_among-clause-shown : goal.returns-in-Ok-chosen_among-clause-shown
returns-in-Ok-chosen_among-clause-shown g c = λ lits each.
    let p : ProblemState = (g.S.Solve.state c.args.self.now.solver).problem in
    let t : SolveState = g.S.Solve.state c.expand.new.s in
    let found = subst (λ (ls : List Lit). Expands p ls t.cores (c.in-Ok-Unsat.field-0)) c.as_slice.ensures.value
    c.in-Ok-Unsat.ensures.expands in
    let unsat = subst (Expands p c.in-Ok.lits.items t.cores) c.in-Ok-Unsat.field-0-is found in
    shown-of c.requires.task.0 c.args.self.now.numbers p c.requires.task.1 c.args.choices.now c.in-Ok.lits.items lits
    c.in-Ok.ensures each t.cores unsat.1

pub returns-in-Ok-structure_of-clause-decided : goal.returns-in-Ok-structure_of-clause-decided
returns-in-Ok-structure_of-clause-decided g c = λ lits each shown.
    let s : SolveState = g.S.Solve.state c.args.self.now.solver in
    let told = c.in-Ok-Sat.ensures.decided (subst (HasCoreWithin s.cores) (sym c.as_slice.ensures.value)
    (shown-of c.requires.task.0 c.args.self.now.numbers s.problem c.requires.task.1 c.args.choices.now lits
    c.in-Ok.lits.items each c.in-Ok.ensures s.cores shown)) in
    absurd (subst (λ (w : Verdict). IsRefusal (Ok w)) c.in-Ok-Sat.field-0-is told.answer)

pub returns-in-Ok-Sat-clause-decided : goal.returns-in-Ok-Sat-clause-decided
returns-in-Ok-Sat-clause-decided g c = λ lits each shown.
    let s : SolveState = g.S.Solve.state c.args.self.now.solver in
    let told = c.in-Ok-Sat.ensures.decided (subst (HasCoreWithin s.cores) (sym c.as_slice.ensures.value)
    (shown-of c.requires.task.0 c.args.self.now.numbers s.problem c.requires.task.1 c.args.choices.now lits
    c.in-Ok.lits.items each c.in-Ok.ensures s.cores shown)) in
    absurd (subst (λ (w : Verdict). IsRefusal (Ok w)) c.in-Ok-Sat.field-0-is told.answer)

pub returns-in-Ok-chosen_among-clause-decided : goal.returns-in-Ok-chosen_among-clause-decided
returns-in-Ok-chosen_among-clause-decided g c = λ lits each shown.
    let s : SolveState = g.S.Solve.state c.args.self.now.solver in
    let told = c.in-Ok-Unsat.ensures.decided (subst (HasCoreWithin s.cores) (sym c.as_slice.ensures.value)
    (shown-of c.requires.task.0 c.args.self.now.numbers s.problem c.requires.task.1 c.args.choices.now lits
    c.in-Ok.lits.items each c.in-Ok.ensures s.cores shown)) in
    record { answer = tt; learnt = told.learnt }

pub returns-in-Ok-Unsat-clause-decided : goal.returns-in-Ok-Unsat-clause-decided
returns-in-Ok-Unsat-clause-decided g c = λ lits each shown.
    let s : SolveState = g.S.Solve.state c.args.self.now.solver in
    let told = c.in-Ok-Unsat.ensures.decided (subst (HasCoreWithin s.cores) (sym c.as_slice.ensures.value)
    (shown-of c.requires.task.0 c.args.self.now.numbers s.problem c.requires.task.1 c.args.choices.now lits
    c.in-Ok.lits.items each c.in-Ok.ensures s.cores shown)) in
    record { answer = tt; learnt = told.learnt }

pub returns-clause-decided : goal.returns-clause-decided
returns-clause-decided g c = λ lits each shown.
    let s : SolveState = g.S.Solve.state c.args.self.now.solver in
    let told = c.in-Err.ensures.decided (subst (HasCoreWithin s.cores) (sym c.as_slice.ensures.value)
    (shown-of c.requires.task.0 c.args.self.now.numbers s.problem c.requires.task.1 c.args.choices.now lits
    c.in-Ok.lits.items each c.in-Ok.ensures s.cores shown)) in
    record { answer = halted c.in-Err.halt told.answer; learnt = told.learnt }
