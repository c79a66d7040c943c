use Rattle.reading_laws.proofs.BoundPlaces.{blocks_have_bounds}
use Rattle.reading_laws.proofs.size_laws.blocks_have_bounds.Goals as goal

pub returns : goal.returns
returns c = blocks_have_bounds
