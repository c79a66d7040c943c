use Rattle.std.proofs.Common.{refl}
use Rattle.std.proofs.lemmas.Bool.{OnFalse_from}
use Rattle.consultation.specs.declared.stop.Stop.TheVariants as stop
use Rattle.consultation.proofs.Accepting.{breaks-none}
use Rattle.consultation.proofs.consultant.Consultant.tell.Goals as goal

pub returns-in_default-text_of : goal.returns-in_default-text_of
returns-in_default-text_of g c = record {
  told = refl;
  counts = (refl, refl);
  steps = tt;
  breaks = breaks-none stop.Memory c.args.self.now.checker (g.L.Sink.holds c.args.log.now);
  none = OnFalse_from c.args.self.now.logs _ (λ e. refl);
  kept = refl;
}
