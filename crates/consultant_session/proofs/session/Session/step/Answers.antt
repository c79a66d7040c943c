use Rattle.std.proofs.Common.{◌≡◌, Some, subst}
use Rattle.kept_answers.specs.Answers.{kept_reply}
use Rattle.consult_base.specs.Opened.{base_of}
use Rattle.consultant_session.specs.Sessions.{SessionState}
use Rattle.consultant_session.proofs.KeptAnswers.{kept-of}
use Rattle.consultant_session.proofs.ReplyLemmas.{repeats}
use Rattle.consultant_session.proofs.session.Session.step.Goals as goal

pub returns-in-Some-clause-right : goal.returns-in-Some-clause-right
returns-in-Some-clause-right g c =
    let at : kept_reply c.args.self.now.answered c.args.command.now ≡ Some c.in-Some.reply.now =
    subst (λ (s : SessionState). kept_reply s.answered c.args.command.now ≡ Some c.in-Some.reply.now) c.self.view_is
    c.in-Some.ensures in
    let h = repeats (base_of c.args.self.now.kb) c.args.command.now c.copy.result c.args.self.now c.in-Some.reply.now
    c.known.ensures.choices
    c.known.ensures.solver (kept-of (base_of c.args.self.now.kb) c.args.self.now.state c.args.self.now.supports
    c.args.self.now.solver c.args.self.now.answered c.args.command.now
    c.in-Some.reply.now c.known.ensures.answered at) at c.copy.ensures in
    h.right

pub returns-in-Some-clause-after : goal.returns-in-Some-clause-after
returns-in-Some-clause-after g c =
    let at : kept_reply c.args.self.now.answered c.args.command.now ≡ Some c.in-Some.reply.now =
    subst (λ (s : SessionState). kept_reply s.answered c.args.command.now ≡ Some c.in-Some.reply.now) c.self.view_is
    c.in-Some.ensures in
    let h = repeats (base_of c.args.self.now.kb) c.args.command.now c.copy.result c.args.self.now c.in-Some.reply.now
    c.known.ensures.choices
    c.known.ensures.solver (kept-of (base_of c.args.self.now.kb) c.args.self.now.state c.args.self.now.supports
    c.args.self.now.solver c.args.self.now.answered c.args.command.now
    c.in-Some.reply.now c.known.ensures.answered at) at c.copy.ensures in
    h.after

pub returns-in-Some-clause-prompt : goal.returns-in-Some-clause-prompt
returns-in-Some-clause-prompt g c =
    let at : kept_reply c.args.self.now.answered c.args.command.now ≡ Some c.in-Some.reply.now =
    subst (λ (s : SessionState). kept_reply s.answered c.args.command.now ≡ Some c.in-Some.reply.now) c.self.view_is
    c.in-Some.ensures in
    let h = repeats (base_of c.args.self.now.kb) c.args.command.now c.copy.result c.args.self.now c.in-Some.reply.now
    c.known.ensures.choices
    c.known.ensures.solver (kept-of (base_of c.args.self.now.kb) c.args.self.now.state c.args.self.now.supports
    c.args.self.now.solver c.args.self.now.answered c.args.command.now
    c.in-Some.reply.now c.known.ensures.answered at) at c.copy.ensures in
    h.prompt

pub returns-in-Some-clause-searches : goal.returns-in-Some-clause-searches
returns-in-Some-clause-searches g c =
    let at : kept_reply c.args.self.now.answered c.args.command.now ≡ Some c.in-Some.reply.now =
    subst (λ (s : SessionState). kept_reply s.answered c.args.command.now ≡ Some c.in-Some.reply.now) c.self.view_is
    c.in-Some.ensures in
    let h = repeats (base_of c.args.self.now.kb) c.args.command.now c.copy.result c.args.self.now c.in-Some.reply.now
    c.known.ensures.choices
    c.known.ensures.solver (kept-of (base_of c.args.self.now.kb) c.args.self.now.state c.args.self.now.supports
    c.args.self.now.solver c.args.self.now.answered c.args.command.now
    c.in-Some.reply.now c.known.ensures.answered at) at c.copy.ensures in
    h.searches

pub returns-in-Some-clause-refuted : goal.returns-in-Some-clause-refuted
returns-in-Some-clause-refuted g c =
    let at : kept_reply c.args.self.now.answered c.args.command.now ≡ Some c.in-Some.reply.now =
    subst (λ (s : SessionState). kept_reply s.answered c.args.command.now ≡ Some c.in-Some.reply.now) c.self.view_is
    c.in-Some.ensures in
    let h = repeats (base_of c.args.self.now.kb) c.args.command.now c.copy.result c.args.self.now c.in-Some.reply.now
    c.known.ensures.choices
    c.known.ensures.solver (kept-of (base_of c.args.self.now.kb) c.args.self.now.state c.args.self.now.supports
    c.args.self.now.solver c.args.self.now.answered c.args.command.now
    c.in-Some.reply.now c.known.ensures.answered at) at c.copy.ensures in
    h.refuted

pub returns-in-Some-clause-decided : goal.returns-in-Some-clause-decided
returns-in-Some-clause-decided g c =
    let at : kept_reply c.args.self.now.answered c.args.command.now ≡ Some c.in-Some.reply.now =
    subst (λ (s : SessionState). kept_reply s.answered c.args.command.now ≡ Some c.in-Some.reply.now) c.self.view_is
    c.in-Some.ensures in
    let h = repeats (base_of c.args.self.now.kb) c.args.command.now c.copy.result c.args.self.now c.in-Some.reply.now
    c.known.ensures.choices
    c.known.ensures.solver (kept-of (base_of c.args.self.now.kb) c.args.self.now.state c.args.self.now.supports
    c.args.self.now.solver c.args.self.now.answered c.args.command.now
    c.in-Some.reply.now c.known.ensures.answered at) at c.copy.ensures in
    h.decided

pub returns-in-Some-clause-supports : goal.returns-in-Some-clause-supports
returns-in-Some-clause-supports g c =
    let at : kept_reply c.args.self.now.answered c.args.command.now ≡ Some c.in-Some.reply.now =
    subst (λ (s : SessionState). kept_reply s.answered c.args.command.now ≡ Some c.in-Some.reply.now) c.self.view_is
    c.in-Some.ensures in
    let h = repeats (base_of c.args.self.now.kb) c.args.command.now c.copy.result c.args.self.now c.in-Some.reply.now
    c.known.ensures.choices
    c.known.ensures.solver (kept-of (base_of c.args.self.now.kb) c.args.self.now.state c.args.self.now.supports
    c.args.self.now.solver c.args.self.now.answered c.args.command.now
    c.in-Some.reply.now c.known.ensures.answered at) at c.copy.ensures in
    h.carries.supports

pub returns-in-Some-clause-covers : goal.returns-in-Some-clause-covers
returns-in-Some-clause-covers g c =
    let at : kept_reply c.args.self.now.answered c.args.command.now ≡ Some c.in-Some.reply.now =
    subst (λ (s : SessionState). kept_reply s.answered c.args.command.now ≡ Some c.in-Some.reply.now) c.self.view_is
    c.in-Some.ensures in
    let h = repeats (base_of c.args.self.now.kb) c.args.command.now c.copy.result c.args.self.now c.in-Some.reply.now
    c.known.ensures.choices
    c.known.ensures.solver (kept-of (base_of c.args.self.now.kb) c.args.self.now.state c.args.self.now.supports
    c.args.self.now.solver c.args.self.now.answered c.args.command.now
    c.in-Some.reply.now c.known.ensures.answered at) at c.copy.ensures in
    h.carries.covers

pub returns-in-Some-clause-propagates : goal.returns-in-Some-clause-propagates
returns-in-Some-clause-propagates g c =
    let at : kept_reply c.args.self.now.answered c.args.command.now ≡ Some c.in-Some.reply.now =
    subst (λ (s : SessionState). kept_reply s.answered c.args.command.now ≡ Some c.in-Some.reply.now) c.self.view_is
    c.in-Some.ensures in
    let h = repeats (base_of c.args.self.now.kb) c.args.command.now c.copy.result c.args.self.now c.in-Some.reply.now
    c.known.ensures.choices
    c.known.ensures.solver (kept-of (base_of c.args.self.now.kb) c.args.self.now.state c.args.self.now.supports
    c.args.self.now.solver c.args.self.now.answered c.args.command.now
    c.in-Some.reply.now c.known.ensures.answered at) at c.copy.ensures in
    h.carries.propagates
