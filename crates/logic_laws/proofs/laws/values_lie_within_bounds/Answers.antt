use Rattle.kb_logic.proofs.WithinBounds.{values_lie_within_bounds}
use Rattle.logic_laws.proofs.laws.values_lie_within_bounds.Goals as goal

pub returns : goal.returns
returns c = values_lie_within_bounds
