use Rattle.reading_laws.proofs.IntegerPlaces.{theories_have_places}
use Rattle.reading_laws.proofs.data_laws.theories_have_places.Goals as goal

pub returns : goal.returns
returns c = theories_have_places
