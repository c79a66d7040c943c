use Rattle.std.proofs.Common.{ap}
use Rattle.std.proofs.lemmas.Bool.{OnFalse_at, OnFalse_from}
use Rattle.consult_base.specs.Opened.{base_of}
use Rattle.idp_cli.proofs.Consulting.{log_accepted}
use Rattle.idp_cli.proofs.runs.answer_commands.Goals as goal

pub returns-clause-accepted : goal.returns-clause-accepted
returns-clause-accepted g c =
    log_accepted c.args.job.logs _ (base_of c.args.kb) _ c.answer_all-ended.result _ _ c.in-Ok.ensures.logs
    (ap base_of c.in-Ok.ensures.kb) c.answer_all-ended.ensures.accepted
    (OnFalse_from _ _ (λ e. ap g.L.Sink.holds (OnFalse_at e c.answer_all-ended.ensures.none)))
