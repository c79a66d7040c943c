use Rattle.bound_laws.proofs.Keeps.{narrowed_keeps_models}
use Rattle.bound_laws.proofs.laws.narrowed_keeps_models.Goals as goal

pub returns : goal.returns
returns c = narrowed_keeps_models
