use Rattle.std.proofs.Common.{◌≡◌, Bool, true, MatchBool, rules, subst}
use Rattle.consult_base.specs.Opened.{base_of}
use Rattle.consultant_session.specs.Commands.{IsNotRefused, IsRefused}
use Rattle.consultant_session.proofs.ReplyLemmas.{failure-replies, refusal-replies}
use Rattle.consultant_session.proofs.session.Session.answer.Goals as goal

pub returns-in-Ok-true : goal.returns-in-Ok-true
returns-in-Ok-true g c =
    let kb = base_of c.args.self.now.kb in
    let s = c.args.self.now in
    let is : c.in-Ok-true.field-0 ≡ true = search rules in
    refusal-replies kb c.args.command.now s c.in-Ok-true.ensures.solver
    (subst (λ (b : Bool). MatchBool b (IsRefused kb s.state s.solver c.args.command.now)
    (IsNotRefused kb s.state s.solver c.args.command.now)) is c.in-Ok-true.ensures.told)

pub returns-in-Err : goal.returns-in-Err
returns-in-Err g c =
    failure-replies (base_of c.args.self.now.kb) c.args.command.now c.args.self.now _ c.in-Err.ensures.solver
    c.in-Err.ensures.prompt
