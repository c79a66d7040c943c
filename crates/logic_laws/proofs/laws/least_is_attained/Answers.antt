use Rattle.kb_logic.proofs.Aggregates.{least_is_attained}
use Rattle.logic_laws.proofs.laws.least_is_attained.Goals as goal

pub returns : goal.returns
returns c = least_is_attained
