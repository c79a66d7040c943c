use Rattle.bound_laws.proofs.One.{one_narrowed}
use Rattle.bound_laws.proofs.laws.one_narrowed.Goals as goal

pub returns : goal.returns
returns c = one_narrowed
