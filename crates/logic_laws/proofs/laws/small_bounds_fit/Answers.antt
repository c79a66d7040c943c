use Rattle.kb_logic.proofs.WithinBounds.{small_bounds_fit}
use Rattle.logic_laws.proofs.laws.small_bounds_fit.Goals as goal

pub returns : goal.returns
returns c = small_bounds_fit
