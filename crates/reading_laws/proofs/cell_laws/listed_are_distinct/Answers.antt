use Rattle.reading_laws.proofs.Sharing.{listed_are_distinct}
use Rattle.reading_laws.proofs.cell_laws.listed_are_distinct.Goals as goal

pub returns : goal.returns
returns c = listed_are_distinct
