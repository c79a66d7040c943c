use Rattle.std.proofs.Common.{◌≡◌, ◌∙◌, List, All, length, sym, ap, subst, ◌<◌}
use Rattle.std.proofs.lemmas.Result.{IfOk-weaker}
use Rattle.lit_core.specs.declared.literals.Lit.{Lit}
use Rattle.consequences.specs.Forced.{IsSeen}
use Rattle.ground_core.specs.Problems.{ProblemState}
use Rattle.ground_task.proofs.TaskFacts.{fine, one-list}
use Rattle.found_models.specs.Found.{those_under}
use Rattle.found_models.proofs.FoundFacts.{lits-within, all-seen}
use Rattle.found_models.proofs.asking.models_under.Goals as goal

pub all_under-requires : goal.all_under-requires
all_under-requires g c =
    let p : ProblemState = (g.S.Solve.state c.args.task.now.solver).problem in
    subst (λ (ls : List Lit). All (λ values. All (λ (l : Lit). l.var.0 < length values) ls) c.args.found.now.models)
    (sym c.as_slice.ensures.value)
    (lits-within c.requires.task.0 c.args.task.now.numbers p c.requires.task.1 c.args.found.now c.requires.task.2
    c.args.choices.now c.in_ok-lits.lits.items c.in_ok-lits.ensures)

pub returns-clause-all : goal.returns-clause-all
returns-clause-all g c =
    let b = c.args.task.now.numbers in
    let p : ProblemState = (g.S.Solve.state c.args.task.now.solver).problem in
    IfOk-weaker c.all_under.result _ _
    (λ some is lits each.
    let same : c.as_slice.result.now ≡ lits = c.as_slice.ensures.value
    ∙ one-list b (fine c.requires.task.0 b p c.requires.task.1) c.args.choices.now c.in_ok-lits.lits.items lits
    c.in_ok-lits.ensures each in
    is ∙ ap (λ (ls : List Lit). those_under ls c.args.found.now.models) same) c.all_under.ensures

pub returns-clause-seen : goal.returns-clause-seen
returns-clause-seen g c =
    let b = c.args.task.now.numbers in
    let p : ProblemState = (g.S.Solve.state c.args.task.now.solver).problem in
    IfOk-weaker c.all_under.result _ _
    (λ some is lits each.
    let same : c.as_slice.result.now ≡ lits = c.as_slice.ensures.value
    ∙ one-list b (fine c.requires.task.0 b p c.requires.task.1) c.args.choices.now c.in_ok-lits.lits.items lits
    c.in_ok-lits.ensures each in
    subst (All (IsSeen p lits)) (sym (is ∙ ap (λ (ls : List Lit). those_under ls c.args.found.now.models) same))
    (all-seen c.requires.task.0 b p c.requires.task.1 c.args.choices.now lits each c.args.found.now.models
    c.requires.task.2.models)) c.all_under.ensures
