use Rattle.std.proofs.Common.{sym, subst}
use Rattle.consult_base.specs.Opened.{base_of}
use Rattle.consultation.specs.Accepted.{IsUpTo}
use Rattle.consultation.specs.Turns.{ConsultantState}
use Rattle.consultation.specs.declared.stop.Stop.TheVariants as stop
use Rattle.consultation.proofs.Accepting.{before-next, breaks-none}
use Rattle.consultation.proofs.consultant.Consultant.answer_next.Goals as goal

pub returns-in-Err-Fault-clause-breaks : goal.returns-in-Err-Fault-clause-breaks
returns-in-Err-Fault-clause-breaks g c =
    breaks-none stop.ReadFault c.args.self.now.checker (g.L.Sink.holds c.args.log.now)

pub returns-in-Err-TooLong-clause-breaks : goal.returns-in-Err-TooLong-clause-breaks
returns-in-Err-TooLong-clause-breaks g c =
    breaks-none stop.ScriptTooLong c.args.self.now.checker (g.L.Sink.holds c.args.log.now)

pub answer-requires-clause-number : goal.answer-requires-clause-number
answer-requires-clause-number g c =
    before-next (base_of c.self.inside.session.kb) c.self.inside.number c.self.inside.checker
    (subst (λ (s : ConsultantState). IsUpTo (base_of s.kb) s.number s.checker) (sym c.self.view_is) c.requires.line)

pub tell-requires-clause-line : goal.tell-requires-clause-line
tell-requires-clause-line g c =
    before-next (base_of c.self.inside.session.kb) c.self.inside.number c.self.inside.checker
    (subst (λ (s : ConsultantState). IsUpTo (base_of s.kb) s.number s.checker) (sym c.self.view_is) c.requires.line)
