use Rattle.reading_laws.proofs.Listing.{listed_are_among}
use Rattle.reading_laws.proofs.cell_laws.listed_are_among.Goals as goal

pub returns : goal.returns
returns c = listed_are_among
