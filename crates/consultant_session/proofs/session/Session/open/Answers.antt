use Rattle.std.proofs.Common.{◌∙◌, subst, sym, ap, List}
use Rattle.kb_logic.specs.KnownAtoms.{KnownAtoms}
use Rattle.consult_base.specs.Opened.{base_of}
use Rattle.kb_logic.specs.declared.structures.Literal.{Literal}
use Rattle.consultant_session.specs.Sessions.{AreChoicesOver}
use Rattle.consultant_session.proofs.ChosenLits.{lits-none}
use Rattle.consultant_session.proofs.KeptAnswers.{no-answers, no-supports}
use Rattle.consultant_session.proofs.OpenLemmas.{none-found, enough-kept}
use Rattle.consultant_session.proofs.session.Session.open.Goals as goal

pub invariant_of-result : goal.invariant_of-result
invariant_of-result g c = record {
  choices = subst (λ (ls : List Literal). AreChoicesOver c.args.kb ls) (sym c.new.ensures) tt;
  hashed = lits-none (base_of c.args.kb) c.new.result c.new-2.result.keys c.new.ensures c.new-2.ensures.empty;
  unknown = c.in_ok-task.ensures.unknown;
  over = c.in_ok-task.ensures.over;
  found = none-found (base_of c.args.kb) c.new-found.result c.atoms.result c.new-found.ensures
      (enough-kept (base_of c.args.kb) c.vocabulary.result.now c.domains.result.now c.atoms.result
      c.vocabulary.ensures.vocabulary (c.domains.ensures.domains ∙ ap (λ (k : KnownAtoms). k.domains)
      c.«data».ensures.known) c.atoms.ensures);
  supports = no-supports (base_of c.args.kb) c.new.result c.new-supports.result c.new-supports.ensures;
  answered = no-answers (base_of c.args.kb) _ c.new-supports.result _ c.new-answered.result c.new-answered.ensures;
}
