use Rattle.stage_definitions.proofs.Ranks.{ranked}
use Rattle.stage_definitions.proofs.isa_laws.isa_has_a_rank.Goals as goal

pub returns : goal.returns
returns c = ranked
