use Rattle.kb_logic.proofs.Aggregates.{greatest_is_attained}
use Rattle.logic_laws.proofs.laws.greatest_is_attained.Goals as goal

pub returns : goal.returns
returns c = greatest_is_attained
