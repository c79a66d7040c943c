use Rattle.def_ground.proofs.SentenceLaws.{sentences-said}
use Rattle.def_ground.proofs.laws.sentences_are_asserted.Goals as goal

pub returns : goal.returns
returns c = sentences-said
