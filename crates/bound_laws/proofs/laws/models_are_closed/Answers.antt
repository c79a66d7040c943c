use Rattle.bound_laws.proofs.Models.{models_are_closed}
use Rattle.bound_laws.proofs.laws.models_are_closed.Goals as goal

pub returns : goal.returns
returns c = models_are_closed
