use Rattle.consult_base.specs.Opened.{base_of}
use Rattle.consultant_session.proofs.ReplyLemmas.{keeps-right, kept-after}
use Rattle.consultant_session.proofs.session.Session.reply_anew.Goals as goal

pub keep-requires-clause-right : goal.keep-requires-clause-right
keep-requires-clause-right g c = λ query.
    keeps-right c.args.command.now c.in-Ok.reply c.args.self.now c.answer.new.self c.in-Ok.ensures query

pub returns-in-Ok-keep-clause-replies : goal.returns-in-Ok-keep-clause-replies
returns-in-Ok-keep-clause-replies g c =
    kept-after (base_of c.args.self.now.kb) c.args.command.now c.args.self.now c.answer.new.self c.keep.new.self
    c.keep.ensures.same c.in-Ok.reply c.in-Ok.ensures
