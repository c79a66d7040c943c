use Rattle.stage_definitions.proofs.NamedTypes.{named_without_cycles}
use Rattle.stage_definitions.proofs.isa_laws.named_types_have_no_cycle.Goals as goal

pub returns : goal.returns
returns c = named_without_cycles
