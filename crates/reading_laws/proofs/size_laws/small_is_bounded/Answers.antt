use Rattle.reading_laws.proofs.Bounded.{small_is_bounded}
use Rattle.reading_laws.proofs.size_laws.small_is_bounded.Goals as goal

pub returns : goal.returns
returns c = small_is_bounded
