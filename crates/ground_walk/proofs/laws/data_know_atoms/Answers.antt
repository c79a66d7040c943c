use Rattle.ground_walk.proofs.GroundableLaws.{knows-atoms}
use Rattle.ground_walk.proofs.laws.data_know_atoms.Goals as goal

pub returns : goal.returns
returns c = knows-atoms
