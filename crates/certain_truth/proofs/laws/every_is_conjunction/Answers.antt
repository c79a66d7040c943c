use Rattle.certain_truth.proofs.Certain.{every_is_conjunction}
use Rattle.certain_truth.proofs.laws.every_is_conjunction.Goals as goal

pub returns : goal.returns
returns c = every_is_conjunction
