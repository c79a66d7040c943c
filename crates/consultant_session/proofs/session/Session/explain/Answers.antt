use Rattle.std.proofs.Common.{List, IfOk, sym, ap, subst, inl, refl}
use Rattle.kb_logic.specs.declared.structures.Literal.{Literal}
use Rattle.ground_task.specs.Choices.{AreOver}
use Rattle.consult_base.specs.Opened.{Opened, base_of}
use Rattle.consult_text.specs.Literals.{IsLiteralOver}
use Rattle.consultant_session.specs.Sessions.{SessionState}
use Rattle.consult_text.specs.declared.commands.Command.TheVariants as command
use Rattle.consult_text.specs.RightReplies.{RightAnswer}
use Rattle.clause_learning.specs.GoingOn.{prefix-itself}
use Rattle.consultant_session.proofs.FoundLemmas.{choices_over}
use Rattle.consultant_session.proofs.KeptAnswers.{answers-stay}
use Rattle.consultant_session.proofs.CommandLemmas.{still_over, query_searches, refuted_by}
use Rattle.kb_logic.specs.Models.{IsAtomOver, atom_of}
use Rattle.term_values.specs.GroundBases.{GroundBase}
use Rattle.consultant_session.proofs.FoundLemmas.{atom_over}
use Rattle.consultant_session.proofs.session.Session.explain.Goals as goal

pub explain-requires-clause-task : goal.explain-requires-clause-task
explain-requires-clause-task g c = (base_of c.self.inside.kb, c.self.invariant.over.task)

pub explain-requires-clause-choices : goal.explain-requires-clause-choices
explain-requires-clause-choices g c =
    subst (AreOver c.self.inside.task.numbers) (sym c.as_slice.ensures)
    (choices_over (base_of c.self.inside.kb) c.self.inside.task.numbers c.self.inside.task.solver.kept.problem
    c.self.inside.choices c.self.invariant.over.task c.self.invariant.choices)

pub explain-requires-clause-literal : goal.explain-requires-clause-literal
explain-requires-clause-literal g c =
    subst (λ (b : GroundBase). IsAtomOver b.vocabulary.symbols b.domains (atom_of c.args.literal.now))
    (sym c.self.invariant.over.task.numbers) (atom_over (base_of c.self.inside.kb) c.args.literal.now
    (subst (λ (k : Opened). IsLiteralOver (base_of k) c.args.literal.now)
    (sym (ap (λ (s : SessionState). s.kb) c.self.view_is)) c.requires))

pub returns-clause-right : goal.returns-clause-right
returns-clause-right g c =
    rw (← c.self.view_is) (subst (λ (ls : List Literal). IfOk c.explain.result
    (RightAnswer (base_of c.self.inside.kb) (record { choices = ls; budget = c.self.inside.budget }) (command.Explain
    c.args.literal.now))) c.as_slice.ensures
    (c.explain.ensures.right (base_of c.self.inside.kb) c.self.invariant.over.task c.self.invariant.over.free))

pub returns-clause-searches : goal.returns-clause-searches
returns-clause-searches g c =
    rw (← c.self.view_is) (query_searches _ (base_of c.self.inside.kb) (command.Explain c.args.literal.now) _ _ _ _ _
    _ _ _ (inl (refl, refl))
    c.explain.ensures c.self.invariant.over)

pub returns-clause-refuted : goal.returns-clause-refuted
returns-clause-refuted g c =
    rw (← c.self.view_is) (refuted_by (base_of c.self.inside.kb) c.self.inside.task.numbers c.as_slice.result.now
    c.self.inside.choices c.explain.new.task.solver.kept.cores c.explain.result c.self.invariant.over.task.numbers
    c.as_slice.ensures c.explain.ensures.refuted)

pub invariant_of-self : goal.invariant_of-self
invariant_of-self g c = record {
  choices = c.self.invariant.choices;
  hashed = c.self.invariant.hashed;
  unknown = c.self.invariant.unknown;
  found = c.self.invariant.found;
  over = still_over _ (base_of c.self.inside.kb) (command.Explain c.args.literal.now) _ _ _ _ _ _ _ c.explain.ensures
      c.self.invariant.over;
  supports = c.self.invariant.supports;
  answered = answers-stay (base_of c.self.inside.kb) (record {
    choices = c.self.inside.choices;
    budget = c.self.inside.budget;
  }) c.self.inside.supports c.self.inside.supports c.self.inside.task.solver.kept c.explain.new.task.solver.kept
      c.self.inside.answered (prefix-itself c.self.inside.supports) c.explain.ensures.learns.cores
      c.self.invariant.answered;
}
