use Rattle.quantifier_bounds.proofs.Small.{small_theories_fit}
use Rattle.quantifier_bounds.proofs.laws.small_theories_fit.Goals as goal

pub returns : goal.returns
returns c = small_theories_fit
