use Rattle.certain_truth.proofs.Totality.{certainty_is_truth}
use Rattle.certain_truth.proofs.laws.certainty_is_truth.Goals as goal

pub returns : goal.returns
returns c = certainty_is_truth
