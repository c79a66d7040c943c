use Rattle.ground_core.proofs.CoreFacts.{refused}
use Rattle.ground_core.proofs.laws.refusals_are_kept.Goals as goal

pub returns : goal.returns
returns c = refused
