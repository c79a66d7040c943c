use Rattle.certain_truth.proofs.Plain.{plain_certainty_fits}
use Rattle.certain_truth.proofs.laws.no_arithmetic_fits.Goals as goal

pub returns : goal.returns
returns c = plain_certainty_fits
