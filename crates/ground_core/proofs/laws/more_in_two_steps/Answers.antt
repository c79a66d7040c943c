use Rattle.ground_core.proofs.Mores.{more-trans}
use Rattle.ground_core.proofs.laws.more_in_two_steps.Goals as goal

pub returns : goal.returns
returns c = more-trans
