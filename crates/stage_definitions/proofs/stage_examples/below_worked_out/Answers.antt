use Rattle.std.proofs.Common.{refl}
use Rattle.stage_definitions.proofs.stage_examples.below_worked_out.Goals as goal

pub returns : goal.returns
returns c = record { itself = refl; two_up = refl; not_down = refl; side_by_side = refl }
