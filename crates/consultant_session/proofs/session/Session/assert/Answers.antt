use Rattle.std.proofs.Common.{◌∙◌, ◌∷◌, ◌++◌, [], All, List, ap, sym, subst}
use Rattle.kb_logic.specs.declared.structures.Literal.{Literal}
use Rattle.atom_numbers.specs.Numbers.{HasNumber}
use Rattle.ground_task.specs.Tasks.{atom_base}
use Rattle.kept_supports.specs.Supports.{IsSupported}
use Rattle.kept_supports.proofs.SupportFacts.{choices_may_grow}
use Rattle.consult_base.specs.Opened.{base_of}
use Rattle.consult_text.specs.Literals.{IsLiteralOver}
use Rattle.consultant_session.specs.Sessions.{AreChoicesOver, SessionState}
use Rattle.consultant_session.proofs.ChosenLits.{lits-more}
use Rattle.consultant_session.proofs.KeptAnswers.{all-push, no-answers}
use Rattle.consultant_session.proofs.session.Session.assert.Goals as goal

pub invariant_of-self-2 : goal.invariant_of-self-2
invariant_of-self-2 g c =
    let base = base_of c.self.inside.kb in
    let l = c.args.literal.now in
    let after = c.in_ok-add_choice.ensures.last
    ∙ ap (λ (x : Literal). c.self.inside.choices ++ x ∷ []) c.in_ok-choice.ensures in
    let number = subst (λ (s : SessionState). HasNumber (atom_base (base_of s.kb)) l c.lit_of-lit.result)
    (sym c.self.view_is) c.lit_of-lit.ensures in
    record {
      choices = subst (AreChoicesOver c.self.inside.kb) (sym after)
          (all-push (IsLiteralOver base) c.self.inside.choices l c.self.invariant.choices
          (subst (λ (s : SessionState). IsLiteralOver (base_of s.kb) l) (sym c.self.view_is) c.requires));
      hashed = lits-more base c.self.invariant.over.task.fine c.self.inside.choices c.self.inside.hashed.keys l
          c.lit_of-lit.result number c.self.invariant.hashed c.add_choice.new.choices c.add_choice.new.lits.keys after
          c.in_ok-add_choice.ensures.added;
      unknown = c.self.invariant.unknown;
      found = c.self.invariant.found;
      over = c.self.invariant.over;
      supports = subst (λ (ls : List Literal). All (IsSupported base ls) c.self.inside.supports) (sym after)
          (choices_may_grow base c.self.inside.choices l c.self.inside.supports c.self.invariant.supports);
      answered = no-answers base _ c.self.inside.supports c.self.inside.task.solver.kept c.clear.new.self
          c.clear.ensures;
    }
