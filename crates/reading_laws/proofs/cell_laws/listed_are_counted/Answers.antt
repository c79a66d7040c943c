use Rattle.reading_laws.proofs.Counting.{listed_are_counted}
use Rattle.reading_laws.proofs.cell_laws.listed_are_counted.Goals as goal

pub returns : goal.returns
returns c = listed_are_counted
