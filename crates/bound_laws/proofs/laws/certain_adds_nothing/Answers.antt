use Rattle.bound_laws.proofs.Adding.{certain_adds_nothing}
use Rattle.bound_laws.proofs.laws.certain_adds_nothing.Goals as goal

pub returns : goal.returns
returns c = certain_adds_nothing
