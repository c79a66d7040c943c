use Rattle.ground_walk.proofs.GroundableLaws.{groundable}
use Rattle.ground_walk.proofs.laws.bounded_are_groundable.Goals as goal

pub returns : goal.returns
returns c = groundable
