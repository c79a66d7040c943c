use Rattle.std.proofs.Common.{◌≡◌, ◌∙◌, List, All, [], length, sym, subst, ◌<◌}
use Rattle.kb_logic.specs.Bases.{IsModelUnder}
use Rattle.lit_core.specs.declared.literals.Lit.{Lit}
use Rattle.ground_core.specs.Problems.{ProblemState}
use Rattle.ground_task.proofs.TaskFacts.{fine, one-list}
use Rattle.found_models.specs.Found.{those_under, IsLastOf}
use Rattle.found_models.proofs.FoundFacts.{lits-within, last-under}
use Rattle.found_models.proofs.asking.known_model.Goals as goal

pub newest-requires : goal.newest-requires
newest-requires g c =
    let p : ProblemState = (g.S.Solve.state c.args.task.now.solver).problem in
    subst (λ (ls : List Lit). All (λ values. All (λ (l : Lit). l.var.0 < length values) ls) c.args.found.now.models)
    (sym c.as_slice.ensures.value)
    (lits-within c.requires.task.0 c.args.task.now.numbers p c.requires.task.1 c.args.found.now c.requires.task.2
    c.args.choices.now c.in_ok-lits.lits.items c.in_ok-lits.ensures)

pub returns-in-Some-clause-newest : goal.returns-in-Some-clause-newest
returns-in-Some-clause-newest g c = λ lits each.
    let b = c.args.task.now.numbers in
    let p : ProblemState = (g.S.Solve.state c.args.task.now.solver).problem in
    let same : c.as_slice.result.now ≡ lits = c.as_slice.ensures.value
    ∙ one-list b (fine c.requires.task.0 b p c.requires.task.1) c.args.choices.now c.in_ok-lits.lits.items lits
    c.in_ok-lits.ensures each in (
      c.in-Some.values.now,
      subst (λ (ls : List Lit). IsLastOf c.in-Some.values.now (those_under ls c.args.found.now.models)) same
          c.in-Some.ensures,
      c.in_ok-structure_of-in-Some.ensures,
    )

pub returns-in-Some-clause-model : goal.returns-in-Some-clause-model
returns-in-Some-clause-model g c = λ base h are.
    let b = c.args.task.now.numbers in
    let p : ProblemState = (g.S.Solve.state c.args.task.now.solver).problem in
    subst (IsModelUnder base c.args.choices.now) (sym c.in_ok-structure_of-in-Some.ensures)
    (last-under base b p h c.args.found.now are c.args.choices.now c.in_ok-lits.lits.items c.in_ok-lits.ensures
    c.in-Some.values.now (subst (λ (ls : List Lit). IsLastOf c.in-Some.values.now (those_under ls
    c.args.found.now.models)) c.as_slice.ensures.value c.in-Some.ensures))

pub returns-clause-newest : goal.returns-clause-newest
returns-clause-newest g c = λ lits each.
    let b = c.args.task.now.numbers in
    let p : ProblemState = (g.S.Solve.state c.args.task.now.solver).problem in
    let same : c.as_slice.result.now ≡ lits = c.as_slice.ensures.value
    ∙ one-list b (fine c.requires.task.0 b p c.requires.task.1) c.args.choices.now c.in_ok-lits.lits.items lits
    c.in_ok-lits.ensures each in
    subst (λ (ls : List Lit). those_under ls c.args.found.now.models ≡ []) same c.in-None.ensures
