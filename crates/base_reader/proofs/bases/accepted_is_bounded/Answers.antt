use Rattle.base_reader.proofs.BoundedBases.{accepted_is_bounded}
use Rattle.base_reader.proofs.bases.accepted_is_bounded.Goals as goal

pub returns : goal.returns
returns c = accepted_is_bounded c.accepted_are_bounded.ensures
