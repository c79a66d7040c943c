use Rattle.certain_truth.proofs.KnownBounds.{small_terms_fit}
use Rattle.certain_truth.proofs.laws.small_terms_fit.Goals as goal

pub returns : goal.returns
returns c = small_terms_fit
