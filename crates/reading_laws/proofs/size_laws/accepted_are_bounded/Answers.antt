use Rattle.reading_laws.proofs.AcceptedSizes.{accepted_are_bounded}
use Rattle.reading_laws.proofs.size_laws.accepted_are_bounded.Goals as goal

pub returns : goal.returns
returns c = accepted_are_bounded
