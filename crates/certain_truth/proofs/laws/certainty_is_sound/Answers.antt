use Rattle.certain_truth.proofs.Soundness.{certainty_is_sound}
use Rattle.certain_truth.proofs.laws.certainty_is_sound.Goals as goal

pub returns : goal.returns
returns c = certainty_is_sound
