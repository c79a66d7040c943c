use Rattle.certain_truth.proofs.Monotony.{certainty_is_monotone}
use Rattle.certain_truth.proofs.laws.certainty_is_monotone.Goals as goal

pub returns : goal.returns
returns c = certainty_is_monotone
