use Rattle.ground_core.proofs.CallFacts.{calls-add-up}
use Rattle.ground_core.proofs.laws.calls_add_up.Goals as goal

pub returns : goal.returns
returns c = calls-add-up
