use Rattle.std.proofs.Common.{◌≡◌, List, map, sym, ap, ◌∙◌, subst}
use Rattle.kb_logic.specs.declared.structures.Structure.{Structure}
use Rattle.kb_logic.specs.Answers.{AreModels}
use Rattle.lit_core.specs.declared.literals.Lit.{Lit}
use Rattle.lit_core.specs.Literals.{valuation}
use Rattle.ground_core.specs.Problems.{ProblemState, AreLitsOf}
use Rattle.ground_core.specs.Solving.{SolveState, AreUnretired}
use Rattle.term_values.specs.GroundBases.{GroundBase, structure_of}
use Rattle.model_expansion.specs.Enumerations.{FindsSeveral}
use Rattle.ground_task.proofs.TaskFacts.{problem-lits, not-retired}
use Rattle.task_queries.specs.Queries.{under}
use Rattle.task_queries.proofs.ModelFacts.{task-grows, are-several, none-several, none-shown, is-empty, not-empty}
use Rattle.task_queries.proofs.enumerating.models.Goals as goal

pub several-requires-clause-literals : goal.several-requires-clause-literals
several-requires-clause-literals g c =
    let p : ProblemState = (g.S.Solve.state c.args.task.now.solver).problem in
    subst (AreLitsOf p.vars) (sym c.as_slice.ensures.value)
    (problem-lits c.requires.task.0 c.args.task.now.numbers p c.requires.task.1 c.args.choices.now c.in-Ok.lits.items
    c.in-Ok.ensures c.known.ensures.kept.problem)

pub several-requires-clause-unretired : goal.several-requires-clause-unretired
several-requires-clause-unretired g c =
    let p : ProblemState = (g.S.Solve.state c.args.task.now.solver).problem in
    subst (AreUnretired p) (sym c.as_slice.ensures.value)
    (not-retired c.requires.task.0 c.args.task.now.numbers p c.requires.task.1 c.args.choices.now c.in-Ok.lits.items
    c.in-Ok.ensures)

pub returns-then-is_empty-clause-answer : goal.returns-then-is_empty-clause-answer
returns-then-is_empty-clause-answer g c = λ base h.
    let p : ProblemState = (g.S.Solve.state c.args.task.now.solver).problem in
    let t : SolveState = g.S.Solve.state c.several.new.s.solver in
    let found = subst (λ (ls : List Lit). FindsSeveral p ls c.args.most t.cores c.in-Ok-several.found)
    c.as_slice.ensures.value c.in-Ok-several.ensures.finds in
    none-several base c.args.task.now.numbers p h c.args.choices.now c.in-Ok.lits.items c.in-Ok.ensures c.args.most
    t.cores c.in-Ok-several.found.found c.in-Ok-several.found.complete c.requires.most
    (is-empty c.in-Ok-several.found.found c.if-is_empty.ensures) found

pub returns-in-Ok-structures_of-clause-answer : goal.returns-in-Ok-structures_of-clause-answer
returns-in-Ok-structures_of-clause-answer g c = λ base h.
    let p : ProblemState = (g.S.Solve.state c.args.task.now.solver).problem in
    let t : SolveState = g.S.Solve.state c.several.new.s.solver in
    let found = subst (λ (ls : List Lit). FindsSeveral p ls c.args.most t.cores c.in-Ok-several.found)
    c.as_slice.ensures.value c.in-Ok-several.ensures.finds in
    let list : map (λ v. structure_of c.args.task.now.numbers (valuation v)) c.in-Ok-several.found.found
    ≡ c.in-Ok-structures_of.list =
    ap (map (λ v. structure_of c.args.task.now.numbers (valuation v))) (sym c.as_slice-2.ensures)
    ∙ ap (λ (b : GroundBase). map (λ v. structure_of b (valuation v)) c.as_slice-2.result.now)
    c.several.ensures.later.1
    ∙ sym c.in-Ok-structures_of.ensures in
    subst (λ (ms : List Structure). AreModels base (under c.args.choices.now) c.args.most ms
    c.in-Ok-several.found.complete) list
    (are-several base c.args.task.now.numbers p h c.args.choices.now c.in-Ok.lits.items c.in-Ok.ensures c.args.most
    t.cores c.in-Ok-several.found.found c.in-Ok-several.found.complete
    (not-empty c.in-Ok-several.found.found c.if-is_empty.ensures) found)

pub returns-in-Err-clause-task : goal.returns-in-Err-clause-task
returns-in-Err-clause-task g c = λ base h.
    task-grows base c.args.task.now.numbers c.several.new.s.numbers (g.S.Solve.state c.args.task.now.solver).problem
    (g.S.Solve.state c.several.new.s.solver).problem (sym c.several.ensures.later.1) c.known.ensures.kept.problem
    c.several.ensures.grows h

pub returns-then-is_empty-clause-task : goal.returns-then-is_empty-clause-task
returns-then-is_empty-clause-task g c = λ base h.
    task-grows base c.args.task.now.numbers c.several.new.s.numbers (g.S.Solve.state c.args.task.now.solver).problem
    (g.S.Solve.state c.several.new.s.solver).problem (sym c.several.ensures.later.1) c.known.ensures.kept.problem
    c.several.ensures.grows h

pub returns-in-Ok-structures_of-clause-task : goal.returns-in-Ok-structures_of-clause-task
returns-in-Ok-structures_of-clause-task g c = λ base h.
    task-grows base c.args.task.now.numbers c.several.new.s.numbers (g.S.Solve.state c.args.task.now.solver).problem
    (g.S.Solve.state c.several.new.s.solver).problem (sym c.several.ensures.later.1) c.known.ensures.kept.problem
    c.several.ensures.grows h

pub returns-clause-task : goal.returns-clause-task
returns-clause-task g c = λ base h.
    task-grows base c.args.task.now.numbers c.several.new.s.numbers (g.S.Solve.state c.args.task.now.solver).problem
    (g.S.Solve.state c.several.new.s.solver).problem (sym c.several.ensures.later.1) c.known.ensures.kept.problem
    c.several.ensures.grows h

pub returns-then-is_empty-clause-refuted : goal.returns-then-is_empty-clause-refuted
returns-then-is_empty-clause-refuted g c =
    let p : ProblemState = (g.S.Solve.state c.args.task.now.solver).problem in
    let t : SolveState = g.S.Solve.state c.several.new.s.solver in
    let found = subst (λ (ls : List Lit). FindsSeveral p ls c.args.most t.cores c.in-Ok-several.found)
    c.as_slice.ensures.value c.in-Ok-several.ensures.finds in
    none-shown c.requires.task.0 c.args.task.now.numbers p c.requires.task.1 c.args.choices.now c.in-Ok.lits.items
    c.in-Ok.ensures c.args.most t.cores c.in-Ok-several.found.found c.in-Ok-several.found.complete c.requires.most
    (is-empty c.in-Ok-several.found.found c.if-is_empty.ensures) found
