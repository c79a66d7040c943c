use Rattle.reading_laws.proofs.Covered.{covered_is_each}
use Rattle.reading_laws.proofs.cell_laws.covered_is_each.Goals as goal

pub returns : goal.returns
returns c = covered_is_each
