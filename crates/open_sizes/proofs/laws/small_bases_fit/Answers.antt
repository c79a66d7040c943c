use Rattle.open_sizes.proofs.Small.{small_bases_fit}
use Rattle.open_sizes.proofs.laws.small_bases_fit.Goals as goal

pub returns : goal.returns
returns c = small_bases_fit
