use Rattle.std.proofs.Common.{sym, subst}
use Rattle.kb_logic.specs.Models.{IsAtomOver, atom_of}
use Rattle.term_values.specs.GroundBases.{GroundBase}
use Rattle.atom_numbers.specs.Numbers.{HasNumber}
use Rattle.ground_task.specs.Tasks.{atom_base}
use Rattle.consult_base.specs.Opened.{base_of}
use Rattle.consult_text.specs.Literals.{IsLiteralOver}
use Rattle.consultant_session.specs.Sessions.{SessionState}
use Rattle.consultant_session.proofs.FoundLemmas.{atom_over}
use Rattle.consultant_session.proofs.session.Session.lit_of.Goals as goal

pub lit_of-requires : goal.lit_of-requires
lit_of-requires g c =
    subst (λ (b : GroundBase). IsAtomOver b.vocabulary.symbols b.domains (atom_of c.args.literal.now))
    (sym c.self.invariant.over.task.numbers) (atom_over (base_of c.self.inside.kb) c.args.literal.now
    (subst (λ (s : SessionState). IsLiteralOver (base_of s.kb) c.args.literal.now) (sym c.self.view_is) c.requires))

pub returns : goal.returns
returns g c =
    subst (λ (s : SessionState). HasNumber (atom_base (base_of s.kb)) c.args.literal.now c.lit_of.result) c.self.view_is
    (subst (λ (b : GroundBase). HasNumber b c.args.literal.now c.lit_of.result) c.self.invariant.over.task.numbers
    c.lit_of.ensures)
