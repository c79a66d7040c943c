use Rattle.lit_core.proofs.Soundness.{follows-sound}
use Rattle.lit_core.proofs.laws.refutation_is_sound.Goals as goal

pub returns : goal.returns
returns c = λ v d clauses s f. follows-sound v d clauses s f
