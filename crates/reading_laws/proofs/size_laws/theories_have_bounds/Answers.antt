use Rattle.reading_laws.proofs.BoundPlaces.{theories_have_bounds}
use Rattle.reading_laws.proofs.size_laws.theories_have_bounds.Goals as goal

pub returns : goal.returns
returns c = theories_have_bounds
