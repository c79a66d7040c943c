use Rattle.def_ground.proofs.AssertLaws.{says-is-right}
use Rattle.def_ground.proofs.laws.assertion_is_right.Goals as goal

pub returns : goal.returns
returns c = says-is-right
