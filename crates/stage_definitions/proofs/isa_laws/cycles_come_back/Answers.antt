use Rattle.stage_definitions.proofs.Forest.{begun, never_itself}
use Rattle.stage_definitions.proofs.Ranks.{ranked}
use Rattle.stage_definitions.proofs.isa_laws.cycles_come_back.Goals as goal

pub returns : goal.returns
returns c = record {
  begun = begun;
  no_other = λ parents none. never_itself parents (ranked parents none).0 (ranked parents none).1;
}
