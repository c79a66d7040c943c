use Rattle.kb_logic.proofs.Aggregates.{sum_adds_each}
use Rattle.logic_laws.proofs.laws.sum_adds_each.Goals as goal

pub returns : goal.returns
returns c = sum_adds_each
