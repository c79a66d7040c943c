use Rattle.reading_laws.proofs.Sharing.{shared_is_some}
use Rattle.reading_laws.proofs.cell_laws.shared_is_some.Goals as goal

pub returns : goal.returns
returns c = shared_is_some
