use Rattle.certain_truth.proofs.Typed.{typed_is_well_applied}
use Rattle.certain_truth.proofs.laws.typed_is_well_applied.Goals as goal

pub returns : goal.returns
returns c = typed_is_well_applied
