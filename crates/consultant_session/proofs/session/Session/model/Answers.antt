use Rattle.std.proofs.Common.{List, IfOk, sym, subst, inl, refl}
use Rattle.kb_logic.specs.declared.structures.Literal.{Literal}
use Rattle.ground_task.specs.Choices.{AreOver}
use Rattle.consult_base.specs.Opened.{base_of}
use Rattle.consult_text.specs.declared.commands.Command.TheVariants as command
use Rattle.consult_text.specs.RightReplies.{RightAnswer}
use Rattle.clause_learning.specs.GoingOn.{prefix-itself}
use Rattle.consultant_session.proofs.FoundLemmas.{choices_over}
use Rattle.consultant_session.proofs.KeptAnswers.{answers-stay}
use Rattle.consultant_session.proofs.CommandLemmas.{still_over, query_searches, refuted_by}
use Rattle.consultant_session.proofs.session.Session.model.Goals as goal

pub model-requires-clause-task : goal.model-requires-clause-task
model-requires-clause-task g c =
    (base_of c.self.inside.kb, c.self.invariant.over.task, c.self.invariant.found)

pub model-requires-clause-choices : goal.model-requires-clause-choices
model-requires-clause-choices g c =
    subst (AreOver c.self.inside.task.numbers) (sym c.as_slice.ensures)
    (choices_over (base_of c.self.inside.kb) c.self.inside.task.numbers c.self.inside.task.solver.kept.problem
    c.self.inside.choices c.self.invariant.over.task c.self.invariant.choices)

pub returns-clause-right : goal.returns-clause-right
returns-clause-right g c =
    rw (← c.self.view_is) (subst (λ (ls : List Literal). IfOk c.model.result
    (RightAnswer (base_of c.self.inside.kb) (record { choices = ls; budget = c.self.inside.budget }) command.Model))
    c.as_slice.ensures
    (c.model.ensures.ends.right (base_of c.self.inside.kb) (c.self.invariant.over.task, c.self.invariant.found)
    c.self.invariant.over.free))

pub returns-clause-searches : goal.returns-clause-searches
returns-clause-searches g c =
    rw (← c.self.view_is) (query_searches _ (base_of c.self.inside.kb) command.Model _ _ _ _ _ _ _ _ (inl (refl, refl))
    c.model.ensures.ends c.self.invariant.over)

pub returns-clause-refuted : goal.returns-clause-refuted
returns-clause-refuted g c =
    rw (← c.self.view_is) (refuted_by (base_of c.self.inside.kb) c.self.inside.task.numbers c.as_slice.result.now
    c.self.inside.choices c.model.new.task.solver.kept.cores c.model.result c.self.invariant.over.task.numbers
    c.as_slice.ensures c.model.ensures.ends.refuted)

pub invariant_of-self : goal.invariant_of-self
invariant_of-self g c = record {
  choices = c.self.invariant.choices;
  hashed = c.self.invariant.hashed;
  unknown = c.self.invariant.unknown;
  over = still_over _ (base_of c.self.inside.kb) command.Model _ _ _ _ _ _ _ c.model.ensures.ends
      c.self.invariant.over;
  found = c.model.ensures.found (base_of c.self.inside.kb) c.self.invariant.over.task c.self.invariant.found;
  supports = c.self.invariant.supports;
  answered = answers-stay (base_of c.self.inside.kb) (record {
    choices = c.self.inside.choices;
    budget = c.self.inside.budget;
  }) c.self.inside.supports c.self.inside.supports c.self.inside.task.solver.kept c.model.new.task.solver.kept
      c.self.inside.answered (prefix-itself c.self.inside.supports) c.model.ensures.ends.learns.cores
      c.self.invariant.answered;
}
