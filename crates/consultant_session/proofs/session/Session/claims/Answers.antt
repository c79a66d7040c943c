use Rattle.std.proofs.Common.{sym, ap, subst}
use Rattle.ground_task.specs.Choices.{AreOver}
use Rattle.consult_base.specs.Opened.{Opened, base_of}
use Rattle.consult_text.specs.RightReplies.{RightReply}
use Rattle.consultant_session.specs.Sessions.{SessionState}
use Rattle.consultant_session.proofs.FoundLemmas.{choices_over}
use Rattle.consultant_session.proofs.ForcedReplies.{forced_over}
use Rattle.consultant_session.proofs.session.Session.claims.Goals as goal

pub claims_of-requires-clause-choices : goal.claims_of-requires-clause-choices
claims_of-requires-clause-choices g c =
    subst (AreOver c.self.inside.task.numbers) (sym c.as_slice.ensures)
    (choices_over (base_of c.self.inside.kb) c.self.inside.task.numbers c.self.inside.task.solver.kept.problem
    c.self.inside.choices c.self.invariant.over.task c.self.invariant.choices)

pub claims_of-requires-clause-forced : goal.claims_of-requires-clause-forced
claims_of-requires-clause-forced g c =
    let right = subst (λ (k : Opened). RightReply (base_of k) c.requires.0 c.args.command.now c.args.reply.now)
    (sym (ap (λ (s : SessionState). s.kb) c.self.view_is)) c.requires.1 in
    forced_over (base_of c.self.inside.kb) c.self.inside.task.numbers c.self.inside.task.solver.kept.problem
    c.self.invariant.over.task c.requires.0 c.args.command.now c.args.reply.now right
