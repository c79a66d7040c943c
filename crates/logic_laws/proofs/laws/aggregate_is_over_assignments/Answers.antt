use Rattle.std.proofs.Common.{refl}
use Rattle.logic_laws.proofs.laws.aggregate_is_over_assignments.Goals as goal

pub returns : goal.returns
returns c = λ m k bs f t e. refl
