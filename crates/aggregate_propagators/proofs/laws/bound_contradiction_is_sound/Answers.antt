use Rattle.aggregate_propagators.proofs.Bounds.{bound-contradiction-is-sound}
use Rattle.aggregate_propagators.proofs.laws.bound_contradiction_is_sound.Goals as goal

pub returns : goal.returns
returns c = bound-contradiction-is-sound
