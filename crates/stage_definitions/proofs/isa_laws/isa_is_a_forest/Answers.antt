use Rattle.stage_definitions.proofs.Forest.{forest}
use Rattle.stage_definitions.proofs.Ranks.{ranked}
use Rattle.stage_definitions.proofs.isa_laws.isa_is_a_forest.Goals as goal

pub returns : goal.returns
returns c = λ parents none. forest parents (ranked parents none).0 (ranked parents none).1
