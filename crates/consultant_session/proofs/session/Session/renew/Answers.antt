use Rattle.std.proofs.Common.{ap, sym, subst}
use Rattle.ground_task.specs.Tasks.{AreRefuted, atom_base}
use Rattle.consult_base.specs.Opened.{base_of}
use Rattle.consultant_session.specs.Sessions.{SessionState}
use Rattle.consultant_session.proofs.KeptAnswers.{answers-stay-anew}
use Rattle.consultant_session.proofs.SolverLemmas.{solver-of}
use Rattle.consultant_session.proofs.session.Session.renew.Goals as goal

pub returns-then-keeps_task-clause-solver : goal.returns-then-keeps_task-clause-solver
returns-then-keeps_task-clause-solver g c =
    rw (← c.self.view_is) (solver-of (base_of c.self.inside.kb) c.self.inside.task.numbers
    c.self.inside.task.solver.kept c.self.invariant.over)

pub invariant_of-self : goal.invariant_of-self
invariant_of-self g c = rw (c.in_err-open_anew.ensures.same) c.self.invariant

pub returns-in_err-open_anew-clause-state : goal.returns-in_err-open_anew-clause-state
returns-in_err-open_anew-clause-state g c = ap (λ (s : SessionState). s.state) c.self.view_is

pub returns-in_err-open_anew-clause-kb : goal.returns-in_err-open_anew-clause-kb
returns-in_err-open_anew-clause-kb g c = ap (λ (s : SessionState). s.kb) c.self.view_is

pub returns-in_err-open_anew-clause-solver : goal.returns-in_err-open_anew-clause-solver
returns-in_err-open_anew-clause-solver g c =
    rw (c.in_err-open_anew.ensures.same) (rw (← c.self.view_is) (solver-of (base_of c.self.inside.kb)
    c.self.inside.task.numbers c.self.inside.task.solver.kept c.self.invariant.over))

pub invariant_of-self-2 : goal.invariant_of-self-2
invariant_of-self-2 g c = record {
  choices = c.self.invariant.choices;
  hashed = c.self.invariant.hashed;
  unknown = c.self.invariant.unknown;
  found = c.self.invariant.found;
  over = c.in_ok-open_anew.ensures.over;
  supports = c.self.invariant.supports;
  answered = answers-stay-anew (base_of c.self.inside.kb)
      (record { choices = c.self.inside.choices; budget = c.self.inside.budget }) c.self.inside.supports
      c.self.inside.task.solver.kept c.open_anew.new.task.solver.kept c.self.inside.answered
      (subst (λ (s : SessionState). AreRefuted (atom_base (base_of s.kb)) s.state.choices s.solver.cores → ⊥)
      (sym c.self.view_is) c.requires) c.self.invariant.answered;
}

pub returns-clause-state : goal.returns-clause-state
returns-clause-state g c = ap (λ (s : SessionState). s.state) c.self.view_is

pub returns-clause-kb : goal.returns-clause-kb
returns-clause-kb g c = ap (λ (s : SessionState). s.kb) c.self.view_is

pub returns-clause-solver : goal.returns-clause-solver
returns-clause-solver g c =
    rw (← c.self.view_is) (solver-of (base_of c.self.inside.kb) c.open_anew.new.task.numbers
    c.open_anew.new.task.solver.kept c.in_ok-open_anew.ensures.over)
