use Rattle.reading_laws.proofs.Rows.{refusals_are_parted}
use Rattle.reading_laws.proofs.data_laws.refusals_are_parted.Goals as goal

pub returns : goal.returns
returns c = refusals_are_parted
