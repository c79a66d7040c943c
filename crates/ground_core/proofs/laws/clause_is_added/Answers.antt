use Rattle.ground_core.proofs.Whole.{clause-added}
use Rattle.ground_core.proofs.laws.clause_is_added.Goals as goal

pub returns : goal.returns
returns c = clause-added
