use Rattle.std.proofs.Common.{ap}
use Rattle.std.specs.Prelude.{is_some}
use Rattle.consult_base.specs.Opened.{base_of}
use Rattle.consultation.specs.Turns.{ConsultantState}
use Rattle.consultation.specs.declared.stop.Stop.TheVariants as stop
use Rattle.consultation.proofs.Accepting.{breaks-none}
use Rattle.consultation.proofs.Telling.{answered}
use Rattle.consultation.proofs.consultant.Consultant.answer.Goals as goal

pub returns-in-Ok-clause-answered : goal.returns-in-Ok-clause-answered
returns-in-Ok-clause-answered g c =
    let inside = c.self.inside in
    rw (← c.self.view_is) (answered c.tell.result (is_some inside.checker) (base_of inside.session.kb)
    (base_of c.said_to.new.session.kb) inside.number inside.session.state c.said_to.new.session.state
    c.tell.new.self.state inside.lines.line c.line.result.now c.in-Ok.said _ _ (ap base_of c.in-Ok.ensures.kb)
    c.line.ensures (ap (λ (x : ConsultantState). x.state) c.tell.ensures.kept) c.in-Ok.ensures.right
    c.in-Ok.ensures.leaves c.tell.ensures.told)

pub returns-in-Err-clause-breaks : goal.returns-in-Err-clause-breaks
returns-in-Err-clause-breaks g c =
    breaks-none stop.Memory c.args.self.now.checker (g.L.Sink.holds c.args.log.now)
