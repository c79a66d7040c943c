use Rattle.reading_laws.proofs.IntegerPlaces.{blocks_have_places}
use Rattle.reading_laws.proofs.data_laws.blocks_have_places.Goals as goal

pub returns : goal.returns
returns c = blocks_have_places
