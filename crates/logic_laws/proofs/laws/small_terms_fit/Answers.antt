use Rattle.kb_logic.proofs.WithinBounds.{small_terms_fit}
use Rattle.logic_laws.proofs.laws.small_terms_fit.Goals as goal

pub returns : goal.returns
returns c = small_terms_fit
