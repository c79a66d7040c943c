use Rattle.std.proofs.Common.{All, List, [], sym, subst}
use Rattle.kb_logic.specs.declared.structures.Literal.{Literal}
use Rattle.kept_supports.specs.Supports.{IsSupported}
use Rattle.kept_supports.proofs.SupportFacts.{choices_may_go}
use Rattle.consult_base.specs.Opened.{base_of}
use Rattle.consultant_session.specs.Sessions.{AreChoicesOver}
use Rattle.consultant_session.proofs.ChosenLits.{lits-none}
use Rattle.consultant_session.proofs.KeptAnswers.{no-answers}
use Rattle.consultant_session.proofs.session.Session.reset.Goals as goal

pub invariant_of-self : goal.invariant_of-self
invariant_of-self g c =
    let base = base_of c.self.inside.kb in
    record {
      choices = subst (AreChoicesOver c.self.inside.kb) (sym c.new.ensures) tt;
      hashed = lits-none base c.new.result c.clear.new.self.keys c.new.ensures c.clear.ensures.empty;
      unknown = c.self.invariant.unknown;
      found = c.self.invariant.found;
      over = c.self.invariant.over;
      supports = subst (λ (ls : List Literal). All (IsSupported base ls) c.lose_supported.new.self) (sym c.new.ensures)
          (subst (All (IsSupported base [])) (sym c.lose_supported.ensures)
          (choices_may_go base c.self.inside.choices c.self.inside.supports c.self.invariant.supports));
      answered = no-answers base _ c.lose_supported.new.self c.self.inside.task.solver.kept c.clear-2.new.self
          c.clear-2.ensures;
    }
