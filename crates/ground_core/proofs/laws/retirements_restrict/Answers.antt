use Rattle.ground_core.proofs.RetiredFacts.{retirement-restricts}
use Rattle.ground_core.proofs.laws.retirements_restrict.Goals as goal

pub returns : goal.returns
returns c = retirement-restricts
