use Rattle.ground_core.proofs.AdditionFacts.{retired-bound-added}
use Rattle.ground_core.proofs.laws.retired_bounds_are_additions.Goals as goal

pub returns : goal.returns
returns c = retired-bound-added
