use Rattle.std.proofs.Common.{◌∙◌, ℕ, ◌<◌, length, List, Option, IfOk, refl, sym, ap, subst}
use Rattle.std.proofs.lemmas.Result.{err_from_is_err_and}
use Rattle.kb_logic.specs.declared.structures.Literal.{Literal}
use Rattle.ground_task.specs.Choices.{AreOver}
use Rattle.consult_base.specs.Opened.{Opened, base_of}
use Rattle.consult_text.specs.declared.commands.Command.TheVariants as command
use Rattle.consult_text.specs.RightReplies.{RightAnswer}
use Rattle.consult_text.specs.States.{State}
use Rattle.ground_core.specs.Solving.{SolveState}
use Rattle.ground_task.specs.Tasks.{atom_base}
use Rattle.session_queries.specs.Queries.{Refutes}
use Rattle.consultant_session.specs.Commands.{IsKeptOrNew, Searches}
use Rattle.consultant_session.specs.Sessions.{SessionState}
use Rattle.clause_learning.specs.GoingOn.{prefix-itself}
use Rattle.consultant_session.proofs.FoundLemmas.{choices_over}
use Rattle.consultant_session.proofs.KeptAnswers.{answers-stay}
use Rattle.consultant_session.proofs.CommandLemmas.{idle, left_of, still_over, query_searches, refuted_by}
use Rattle.consultant_session.proofs.session.Session.minimize.Goals as goal

pub returns-in_err-renew-clause-searches : goal.returns-in_err-renew-clause-searches
returns-in_err-renew-clause-searches g c =
    let p = err_from_is_err_and c.from_residual.result c.from_residual.ensures.1 in
    let same = c.in_err-renew.ensures.same in
    rw p.1 (idle (base_of c.args.self.now.kb) (command.Minimize c.args.term) c.args.self.now.state.budget _
    c.args.self.now.solver c.renew.new.self.solver (ap (λ (s : SolveState). s.learnt) same)
    (ap (λ (s : SolveState). s.cores) same) tt c.in_err-renew.ensures.solver)

pub minimize-requires-clause-task : goal.minimize-requires-clause-task
minimize-requires-clause-task g c = (base_of c.self.inside.kb, c.self.invariant.over.task)

pub minimize-requires-clause-choices : goal.minimize-requires-clause-choices
minimize-requires-clause-choices g c =
    subst (AreOver c.self.inside.task.numbers) (sym c.as_slice.ensures)
    (choices_over (base_of c.self.inside.kb) c.self.inside.task.numbers c.self.inside.task.solver.kept.problem
    c.self.inside.choices c.self.invariant.over.task c.self.invariant.choices)

pub minimize-requires-clause-term : goal.minimize-requires-clause-term
minimize-requires-clause-term g c =
    let kb = ap (λ (s : SessionState). s.kb) c.self.view_is ∙ c.in_ok-renew.ensures.kb in
    subst (λ (n : ℕ). c.args.term < n)
    (ap (λ (k : Opened). length (base_of k).terms) (sym kb) ∙ sym c.self.invariant.over.task.represents.number)
    c.requires.term

pub invariant_of-self : goal.invariant_of-self
invariant_of-self g c = record {
  choices = c.self.invariant.choices;
  hashed = c.self.invariant.hashed;
  unknown = c.self.invariant.unknown;
  found = c.self.invariant.found;
  over = still_over _ (base_of c.self.inside.kb) (command.Minimize c.args.term) _ _ _ _ _ _ _ c.minimize.ensures
      c.self.invariant.over;
  supports = c.self.invariant.supports;
  answered = answers-stay (base_of c.self.inside.kb) (record {
    choices = c.self.inside.choices;
    budget = c.self.inside.budget;
  }) c.self.inside.supports c.self.inside.supports c.self.inside.task.solver.kept c.minimize.new.task.solver.kept
      c.self.inside.answered (prefix-itself c.self.inside.supports) c.minimize.ensures.learns.cores
      c.self.invariant.answered;
}

pub returns-clause-state : goal.returns-clause-state
returns-clause-state g c = ap (λ (s : SessionState). s.state) c.self.view_is ∙ c.in_ok-renew.ensures.state

pub returns-clause-kb : goal.returns-clause-kb
returns-clause-kb g c = ap (λ (s : SessionState). s.kb) c.self.view_is ∙ c.in_ok-renew.ensures.kb

pub returns-clause-right : goal.returns-clause-right
returns-clause-right g c =
    let state = ap (λ (s : SessionState). s.state) c.self.view_is ∙ c.in_ok-renew.ensures.state in
    let kb = ap (λ (s : SessionState). s.kb) c.self.view_is ∙ c.in_ok-renew.ensures.kb in
    let answer = subst (λ (ls : List Literal). IfOk c.minimize.result
    (RightAnswer (base_of c.self.inside.kb) (record { choices = ls; budget = c.self.inside.budget }) (command.Minimize
    c.args.term))) c.as_slice.ensures
    (c.minimize.ensures.right (base_of c.self.inside.kb) c.self.invariant.over.task c.self.invariant.over.free) in
    subst (λ (s : State). IfOk c.minimize.result (RightAnswer (base_of c.args.self.now.kb) s (command.Minimize
    c.args.term))) state (subst (λ (k : Opened). IfOk c.minimize.result (RightAnswer (base_of k)
    (record { choices = c.self.inside.choices; budget = c.self.inside.budget }) (command.Minimize c.args.term))) kb
    answer)

pub returns-clause-searches : goal.returns-clause-searches
returns-clause-searches g c =
    let budget = ap (λ (s : SessionState). s.state.budget) c.self.view_is
    ∙ ap (λ (s : State). s.budget) c.in_ok-renew.ensures.state in
    let kb = ap (λ (s : SessionState). s.kb) c.self.view_is ∙ c.in_ok-renew.ensures.kb in
    let left = subst (λ (s : SessionState). IsKeptOrNew c.args.self.now.solver s.solver) (sym c.self.view_is)
    c.in_ok-renew.ensures.left in
    let searched = query_searches _ (base_of c.self.inside.kb) (command.Minimize c.args.term) _ c.self.inside.budget _ _
    c.args.self.now.solver _ _ _ (left_of (command.Minimize c.args.term) c.args.self.now.solver
    c.self.inside.task.solver.kept refl refl
    (λ more. more) left) c.minimize.ensures c.self.invariant.over in
    subst (λ (b : Option ℕ). Searches (base_of c.args.self.now.kb) (command.Minimize c.args.term) b c.minimize.result
    c.args.self.now.solver c.minimize.new.task.solver.kept) budget
    (subst (λ (k : Opened). Searches (base_of k) (command.Minimize c.args.term) c.self.inside.budget c.minimize.result
    c.args.self.now.solver c.minimize.new.task.solver.kept) kb searched)

pub returns-clause-refuted : goal.returns-clause-refuted
returns-clause-refuted g c =
    let kb = ap (λ (s : SessionState). s.kb) c.self.view_is ∙ c.in_ok-renew.ensures.kb in
    let choices = ap (λ (s : SessionState). s.state.choices) c.self.view_is
    ∙ ap (λ (s : State). s.choices) c.in_ok-renew.ensures.state in
    subst (λ (k : Opened). IfOk c.minimize.result (Refutes (atom_base (base_of k)) c.args.self.now.state.choices
    c.minimize.new.task.solver.kept.cores)) kb
    (refuted_by (base_of c.self.inside.kb) c.self.inside.task.numbers c.as_slice.result.now
    c.args.self.now.state.choices
    c.minimize.new.task.solver.kept.cores c.minimize.result c.self.invariant.over.task.numbers (c.as_slice.ensures ∙
    choices)
    c.minimize.ensures.refuted)
