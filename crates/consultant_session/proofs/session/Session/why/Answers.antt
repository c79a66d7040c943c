use Rattle.std.proofs.Common.{List, IfOk, sym, subst, inl, refl}
use Rattle.kb_logic.specs.declared.structures.Literal.{Literal}
use Rattle.ground_task.specs.Choices.{AreOver}
use Rattle.consult_base.specs.Opened.{base_of}
use Rattle.consult_text.specs.declared.commands.Command.TheVariants as command
use Rattle.consult_text.specs.RightReplies.{RightAnswer}
use Rattle.clause_learning.specs.GoingOn.{prefix-itself}
use Rattle.consultant_session.proofs.FoundLemmas.{choices_over}
use Rattle.consultant_session.proofs.KeptAnswers.{answers-stay}
use Rattle.consultant_session.proofs.CommandLemmas.{still_over, query_searches, refuted_by}
use Rattle.consultant_session.proofs.session.Session.why.Goals as goal

pub why-requires-clause-task : goal.why-requires-clause-task
why-requires-clause-task g c = (base_of c.self.inside.kb, c.self.invariant.over.task)

pub why-requires-clause-choices : goal.why-requires-clause-choices
why-requires-clause-choices g c =
    subst (AreOver c.self.inside.task.numbers) (sym c.as_slice.ensures)
    (choices_over (base_of c.self.inside.kb) c.self.inside.task.numbers c.self.inside.task.solver.kept.problem
    c.self.inside.choices c.self.invariant.over.task c.self.invariant.choices)

pub returns-clause-right : goal.returns-clause-right
returns-clause-right g c =
    rw (← c.self.view_is) (subst (λ (ls : List Literal). IfOk c.why.result
    (RightAnswer (base_of c.self.inside.kb) (record { choices = ls; budget = c.self.inside.budget }) command.Why))
    c.as_slice.ensures
    (c.why.ensures.right (base_of c.self.inside.kb) c.self.invariant.over.task c.self.invariant.over.free))

pub returns-clause-searches : goal.returns-clause-searches
returns-clause-searches g c =
    rw (← c.self.view_is) (query_searches _ (base_of c.self.inside.kb) command.Why _ _ _ _ _ _ _ _ (inl (refl, refl))
    c.why.ensures c.self.invariant.over)

pub returns-clause-refuted : goal.returns-clause-refuted
returns-clause-refuted g c =
    rw (← c.self.view_is) (refuted_by (base_of c.self.inside.kb) c.self.inside.task.numbers c.as_slice.result.now
    c.self.inside.choices c.why.new.task.solver.kept.cores c.why.result c.self.invariant.over.task.numbers
    c.as_slice.ensures c.why.ensures.refuted)

pub invariant_of-self : goal.invariant_of-self
invariant_of-self g c = record {
  choices = c.self.invariant.choices;
  hashed = c.self.invariant.hashed;
  unknown = c.self.invariant.unknown;
  found = c.self.invariant.found;
  over = still_over _ (base_of c.self.inside.kb) command.Why _ _ _ _ _ _ _ c.why.ensures c.self.invariant.over;
  supports = c.self.invariant.supports;
  answered = answers-stay (base_of c.self.inside.kb) (record {
    choices = c.self.inside.choices;
    budget = c.self.inside.budget;
  }) c.self.inside.supports c.self.inside.supports c.self.inside.task.solver.kept c.why.new.task.solver.kept
      c.self.inside.answered (prefix-itself c.self.inside.supports) c.why.ensures.learns.cores
      c.self.invariant.answered;
}
