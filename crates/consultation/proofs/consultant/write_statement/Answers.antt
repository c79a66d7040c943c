use Rattle.std.proofs.Common.{Some}
use Rattle.consultation.specs.declared.stop.Stop.TheVariants as stop
use Rattle.consultation.proofs.Accepting.{breaks-none}
use Rattle.consultation.proofs.consultant.write_statement.Goals as goal

pub returns-in_default-clause-breaks : goal.returns-in_default-clause-breaks
returns-in_default-clause-breaks g c =
    breaks-none stop.Memory (Some c.args.checker.now) (g.L.Sink.holds c.args.log.now)
