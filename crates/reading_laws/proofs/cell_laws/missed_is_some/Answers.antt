use Rattle.reading_laws.proofs.Missing.{missed_is_some}
use Rattle.reading_laws.proofs.cell_laws.missed_is_some.Goals as goal

pub returns : goal.returns
returns c = missed_is_some
