use Rattle.std.proofs.Common.{◌≤◌, sym, ap, ◌∙◌, subst}
use Rattle.ground_core.specs.Solving.{IsKept}
use Rattle.clause_learning.specs.SolverState.{SolverState}
use Rattle.consult_base.specs.Opened.{base_of}
use Rattle.consult_text.specs.Searches.{weight}
use Rattle.session_queries.proofs.TaskLemmas.{if_ok}
use Rattle.session_queries.proofs.tasks.task_of.Goals as goal

pub returns-clause-over : goal.returns-clause-over
returns-clause-over g c =
    let base = base_of c.args.kb.now in
    let is = c.in_ok-solver.ensures in
    if_ok c.open.result (λ t task same. record {
      task = task base (sym c.vocabulary.ensures.vocabulary) (sym c.data.ensures.known) is.grounding;
      kept = subst (λ (s : SolverState). IsKept s.kept) (sym same) is.kept;
      free = subst (λ (s : SolverState). s.kept.free ≤ weight base) (sym same) is.free;
    }) c.open.ensures.task c.open.ensures.solver

pub returns-clause-learnt : goal.returns-clause-learnt
returns-clause-learnt g c =
    if_ok c.open.result (λ t same again. ap (λ (s : SolverState). s.kept.learnt) same ∙ c.in_ok-solver.ensures.learnt)
    c.open.ensures.solver c.open.ensures.solver
