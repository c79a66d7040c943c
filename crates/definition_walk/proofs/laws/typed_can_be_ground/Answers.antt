use Rattle.definition_walk.proofs.Typed.{typed-can-be-ground}
use Rattle.definition_walk.proofs.laws.typed_can_be_ground.Goals as goal

pub returns : goal.returns
returns c = typed-can-be-ground
