use Rattle.std.proofs.Common.{sym}
use Rattle.base_reader.specs.Readings.{meaning_of}
use Rattle.idp_cli.specs.JobViews.{choice_view}
use Rattle.idp_cli.proofs.Consulting.{accepts_log, consultation_ends, consultation_fails}
use Rattle.idp_cli.proofs.runs.consult.Goals as goal

pub returns-in-Ok-clause-ends : goal.returns-in-Ok-clause-ends
returns-in-Ok-clause-ends g c =
    let load = c.in-Ok.ensures.loaded in
    rw (c.status_of.ensures, sym c.in-Ok.ensures.silent)
    (consultation_ends c.args.job.file.now (choice_view c.args.job.options) (meaning_of c.in-Ok.kb) c.args.job.budget
    c.args.job.logs _ _ load.0 load.1 c.answer_commands.result c.answer_commands.ensures.ends)

pub returns-in-Ok-clause-accepted : goal.returns-in-Ok-clause-accepted
returns-in-Ok-clause-accepted g c =
    rw (c.status_of.ensures) (accepts_log c.args.job.file.now (choice_view c.args.job.options) (meaning_of c.in-Ok.kb)
    c.args.job.logs (g.H.Shelf.file c.args.shelf.now) c.answer_commands.result _ _ c.in-Ok.ensures.loaded.1
    c.answer_commands.ensures.accepted)

pub returns-in-Err-clause-ends : goal.returns-in-Err-clause-ends
returns-in-Err-clause-ends g c =
    consultation_fails c.in-Err.status _ _ _ _ _ _
    (c.in-Err.ensures.fails (g.C.Source.left c.args.commands.now) (g.C.Source.faults c.args.commands.now)
    (g.L.Sink.holds c.args.log.now) (g.L.Sink.faults c.args.log.now))
