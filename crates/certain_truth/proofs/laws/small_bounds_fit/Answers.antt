use Rattle.certain_truth.proofs.KnownBounds.{small_bounds_fit}
use Rattle.certain_truth.proofs.laws.small_bounds_fit.Goals as goal

pub returns : goal.returns
returns c = small_bounds_fit
