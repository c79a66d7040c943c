use Rattle.bound_laws.proofs.NotLost.{obeys_is_not_lost}
use Rattle.bound_laws.proofs.laws.obeys_is_not_lost.Goals as goal

pub returns : goal.returns
returns c = obeys_is_not_lost
