use Rattle.std.proofs.Common.{◌≡◌, sym, subst}
use Rattle.atom_numbers.specs.Numbers.{HasNumber}
use Rattle.ground_task.specs.Tasks.{atom_base}
use Rattle.consult_base.specs.Opened.{base_of}
use Rattle.consult_text.specs.States.{State, is_chosen}
use Rattle.consultant_session.specs.Sessions.{SessionState}
use Rattle.consultant_session.proofs.ChoiceLemmas.{chosen_is_membership}
use Rattle.consultant_session.proofs.ChosenLits.{lits-tell}
use Rattle.consultant_session.proofs.session.Session.has_chosen.Goals as goal

pub returns : goal.returns
returns g c =
    let l = c.args.literal.now in
    let s : State = record { choices = c.self.inside.choices; budget = c.self.inside.budget } in
    subst (λ (t : SessionState). c.has_lit.result ≡ is_chosen t.state l) c.self.view_is
    (lits-tell (base_of c.self.inside.kb) c.self.invariant.over.task.fine c.self.inside.choices
    c.self.inside.hashed.keys l c.args.lit
    (subst (λ (t : SessionState). HasNumber (atom_base (base_of t.kb)) l c.args.lit) (sym c.self.view_is) c.requires)
    c.self.invariant.hashed c.has_lit.result (is_chosen s l) c.has_lit.ensures (chosen_is_membership s l))
