use Rattle.ground_core.proofs.CallFacts.{cost}
use Rattle.ground_core.proofs.laws.counts_are_costs.Goals as goal

pub returns : goal.returns
returns c = cost
