use Rattle.std.proofs.Common.{◌≡◌, ◌≢◌, ◌↔◌, ◌∙◌, All, Contains, List, ap, sym, subst, not, true}
use Rattle.kb_logic.specs.declared.structures.Literal.{Literal}
use Rattle.atom_numbers.specs.Numbers.{HasNumber}
use Rattle.ground_task.specs.Tasks.{atom_base}
use Rattle.kept_supports.specs.Supports.{IsSupported}
use Rattle.consult_base.specs.Opened.{base_of}
use Rattle.consult_text.specs.Literals.{IsLiteralOver}
use Rattle.consult_text.specs.States.{is_chosen, same_literal, without}
use Rattle.consultant_session.specs.Sessions.{AreChoicesOver, SessionState}
use Rattle.consultant_session.proofs.ChoiceLemmas.{without_removes_one}
use Rattle.consultant_session.proofs.ChosenLits.{lits-less}
use Rattle.consultant_session.proofs.KeptAnswers.{no-answers, retract-supports, retracted}
use Rattle.consultant_session.proofs.KnownLemmas.{all_filter}
use Rattle.consultant_session.proofs.session.Session.retract.Goals as goal

pub invariant_of-self : goal.invariant_of-self
invariant_of-self g c =
    let base = base_of c.self.inside.kb in
    let l = c.args.literal.now in
    let after = c.from_vec.ensures
    ∙ (c.remove.ensures ∙ ap (without l) (c.into_vec-choices.ensures ∙ c.replace.ensures.value)) in
    let number = subst (λ (s : SessionState). HasNumber (atom_base (base_of s.kb)) l c.lit_of-lit.result)
    (sym c.self.view_is) c.lit_of-lit.ensures in
    record {
      choices = subst (AreChoicesOver c.self.inside.kb) (sym after)
          (all_filter (IsLiteralOver base) (λ d. not (same_literal l d)) c.self.inside.choices
          c.self.invariant.choices);
      hashed = lits-less base c.self.invariant.over.task.fine c.self.inside.choices c.self.inside.hashed.keys l
          c.lit_of-lit.result number c.self.invariant.hashed c.from_vec.result c.lose_lit.new.lits.keys
          (λ d. subst (λ (ls : List Literal). Contains ls d ↔ (Contains c.self.inside.choices d × (d ≢ l))) (sym after)
          (without_removes_one l d c.self.inside.choices)) c.lose_lit.ensures;
      unknown = c.self.invariant.unknown;
      found = c.self.invariant.found;
      over = c.self.invariant.over;
      supports = subst (λ (ls : List Literal). All (IsSupported base ls) c.lose.new.self) (sym after)
          (subst (All (IsSupported base (without l c.self.inside.choices))) (sym c.lose.ensures)
          (retracted base c.self.invariant.over.task.fine c.self.inside.choices l c.lit_of-lit.result number
          c.self.inside.supports c.self.invariant.supports));
      answered = no-answers base _ c.lose.new.self c.self.inside.task.solver.kept c.clear.new.self c.clear.ensures;
    }

pub returns-clause-supports : goal.returns-clause-supports
returns-clause-supports g c =
    let base = base_of c.self.inside.kb in
    let l = c.args.literal.now in
    let number = subst (λ (s : SessionState). HasNumber (atom_base (base_of s.kb)) l c.lit_of-lit.result)
    (sym c.self.view_is) c.lit_of-lit.ensures in
    rw (← c.self.view_is) (λ lit other. retract-supports base c.self.invariant.over.task.fine
    (record { choices = c.self.inside.choices; budget = c.self.inside.budget }) l c.lit_of-lit.result lit number
    (sym (subst (λ (s : SessionState). true ≡ is_chosen s.state l) (sym c.self.view_is) c.if-not-has_chosen.ensures))
    c.self.inside.supports
    c.lose.new.self c.lose.ensures other)
