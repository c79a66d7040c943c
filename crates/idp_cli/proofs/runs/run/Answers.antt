use Rattle.idp_cli.specs.JobViews.{choice_view}
use Rattle.idp_cli.proofs.Consulting.{log_ends}
use Rattle.idp_cli.proofs.runs.run.Goals as goal

pub returns-in-Ok-Some-Consult-clause-accepted : goal.returns-in-Ok-Some-Consult-clause-accepted
returns-in-Ok-Some-Consult-clause-accepted g c =
    log_ends c.consult.result c.args.words.now c.in-Ok-Some-Consult.job.file.now
    (choice_view c.in-Ok-Some-Consult.job.options) c.in-Ok-Some-Consult.job.budget c.in-Ok-Some-Consult.job.logs
    (g.H.Shelf.file c.args.shelf.now) _ _
    (rw (c.in-Ok-Some-Consult.field-0-is, c.in-Ok-Some-Consult.field-0-0-is) at c.in-Ok-Some-Consult.ensures)
    c.consult.ensures.accepted
