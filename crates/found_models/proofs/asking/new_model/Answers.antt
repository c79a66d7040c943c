use Rattle.std.proofs.Common.{List, sym, subst}
use Rattle.kb_logic.specs.Bases.{IsModelUnder}
use Rattle.lit_core.specs.declared.literals.Lit.{Lit}
use Rattle.lit_core.specs.Literals.{valuation}
use Rattle.ground_core.specs.Problems.{ProblemState, AreLitsOf}
use Rattle.ground_core.specs.Solving.{SolveState, AreUnretired}
use Rattle.term_values.specs.GroundBases.{GroundBase, structure_of}
use Rattle.model_expansion.specs.Expansions.{Expands}
use Rattle.ground_task.proofs.TaskFacts.{problem-lits, not-retired, is-model, valued, shown-of}
use Rattle.ground_core.proofs.Sublists.{sublist-all}
use Rattle.lit_core.specs.Literals.{literal_value}
use Rattle.std.proofs.Common.{◌≡◌, true}
use Rattle.found_models.proofs.FoundFacts.{cut-found, kept-or-not, where-kept}
use Rattle.found_models.proofs.asking.new_model.Goals as goal

pub expand-requires-clause-literals : goal.expand-requires-clause-literals
expand-requires-clause-literals g c =
    let p : ProblemState = (g.S.Solve.state c.args.task.now.solver).problem in
    subst (AreLitsOf p.vars) (sym c.as_slice.ensures.value)
    (problem-lits c.requires.task.0 c.args.task.now.numbers p c.requires.task.1 c.args.choices.now c.in-Ok.lits.items
    c.in-Ok.ensures c.known.ensures.kept.problem)

pub expand-requires-clause-unretired : goal.expand-requires-clause-unretired
expand-requires-clause-unretired g c =
    let p : ProblemState = (g.S.Solve.state c.args.task.now.solver).problem in
    subst (AreUnretired p) (sym c.as_slice.ensures.value)
    (not-retired c.requires.task.0 c.args.task.now.numbers p c.requires.task.1 c.args.choices.now c.in-Ok.lits.items
    c.in-Ok.ensures)

pub returns-in-Ok-structure_of-clause-answer : goal.returns-in-Ok-structure_of-clause-answer
returns-in-Ok-structure_of-clause-answer g c = λ base h.
    let p : ProblemState = (g.S.Solve.state c.args.task.now.solver).problem in
    let t : SolveState = g.S.Solve.state c.expand.new.s.solver in
    let found = subst (λ (ls : List Lit). Expands p ls t.cores (c.in-Ok-Sat.field-0)) c.as_slice.ensures.value
    c.in-Ok-Sat.ensures.expands in
    let sat = subst (Expands p c.in-Ok.lits.items t.cores) c.in-Ok-Sat.field-0-is found in
    subst (IsModelUnder base c.args.choices.now) (sym c.in-Ok-structure_of.ensures)
    (subst (λ (b : GroundBase). IsModelUnder base c.args.choices.now (structure_of b (valuation c.in-Ok-Sat.values)))
    c.expand.ensures.later.1
    (is-model base c.args.task.now.numbers p h c.args.choices.now c.in-Ok.lits.items c.in-Ok.ensures
    (valuation c.in-Ok-Sat.values) sat.1 sat.2))

pub returns-in-Ok-structure_of-clause-found : goal.returns-in-Ok-structure_of-clause-found
returns-in-Ok-structure_of-clause-found g c = λ base h are.
    let p : ProblemState = (g.S.Solve.state c.args.task.now.solver).problem in
    let t : SolveState = g.S.Solve.state c.expand.new.s.solver in
    let found = subst (λ (ls : List Lit). Expands p ls t.cores (c.in-Ok-Sat.field-0)) c.as_slice.ensures.value
    c.in-Ok-Sat.ensures.expands in
    let sat = subst (Expands p c.in-Ok.lits.items t.cores) c.in-Ok-Sat.field-0-is found in
    kept-or-not base c.args.found.now c.keep.new.self c.in-Ok-Sat.values c.keep.result c.keep.ensures.kept
    c.keep.ensures.same
    (where-kept c.keep.result (λ short. cut-found base c.args.task.now.numbers p h c.known.ensures.kept.problem
    c.in-Ok.lits.items c.in-Ok-Sat.values c.args.found.now.last sat short are.last) c.keep.ensures.short) are

pub returns-in-Ok-keep-clause-found : goal.returns-in-Ok-keep-clause-found
returns-in-Ok-keep-clause-found g c = λ base h are.
    let p : ProblemState = (g.S.Solve.state c.args.task.now.solver).problem in
    let t : SolveState = g.S.Solve.state c.expand.new.s.solver in
    let found = subst (λ (ls : List Lit). Expands p ls t.cores (c.in-Ok-Sat.field-0)) c.as_slice.ensures.value
    c.in-Ok-Sat.ensures.expands in
    let sat = subst (Expands p c.in-Ok.lits.items t.cores) c.in-Ok-Sat.field-0-is found in
    kept-or-not base c.args.found.now c.keep.new.self c.in-Ok-Sat.values c.keep.result c.keep.ensures.kept
    c.keep.ensures.same
    (where-kept c.keep.result (λ short. cut-found base c.args.task.now.numbers p h c.known.ensures.kept.problem
    c.in-Ok.lits.items c.in-Ok-Sat.values c.args.found.now.last sat short are.last) c.keep.ensures.short) are

pub returns-in-Ok-Unsat-clause-answer : goal.returns-in-Ok-Unsat-clause-answer
returns-in-Ok-Unsat-clause-answer g c = λ base h m under.
    let p : ProblemState = (g.S.Solve.state c.args.task.now.solver).problem in
    let t : SolveState = g.S.Solve.state c.expand.new.s.solver in
    let found = subst (λ (ls : List Lit). Expands p ls t.cores (c.in-Ok-Unsat.field-0)) c.as_slice.ensures.value
    c.in-Ok-Unsat.ensures.expands in
    let unsat = subst (Expands p c.in-Ok.lits.items t.cores) c.in-Ok-Unsat.field-0-is found in
    let e = valued base c.args.task.now.numbers p h c.args.choices.now c.in-Ok.lits.items c.in-Ok.ensures m under in
    unsat.0.1 e.0 e.1 (sublist-all (λ l. literal_value e.0 l ≡ true) c.in-Ok-Unsat.field-0-0 c.in-Ok.lits.items
    unsat.0.0 e.2)

pub returns-in-Ok-Unsat-clause-refuted : goal.returns-in-Ok-Unsat-clause-refuted
returns-in-Ok-Unsat-clause-refuted g c = λ lits each.
    let p : ProblemState = (g.S.Solve.state c.args.task.now.solver).problem in
    let t : SolveState = g.S.Solve.state c.expand.new.s.solver in
    let found = subst (λ (ls : List Lit). Expands p ls t.cores (c.in-Ok-Unsat.field-0)) c.as_slice.ensures.value
    c.in-Ok-Unsat.ensures.expands in
    let unsat = subst (Expands p c.in-Ok.lits.items t.cores) c.in-Ok-Unsat.field-0-is found in
    shown-of c.requires.task.0 c.args.task.now.numbers p c.requires.task.1 c.args.choices.now c.in-Ok.lits.items lits
    c.in-Ok.ensures each t.cores unsat.1
