use Rattle.bound_laws.proofs.Facts.{facts_stay_within}
use Rattle.bound_laws.proofs.laws.facts_stay_within.Goals as goal

pub returns : goal.returns
returns c = facts_stay_within
