use Rattle.file_laws.proofs.SpokenAccepted.{accepted_are_spoken}
use Rattle.file_laws.proofs.spoken_formulas.accepted_are_spoken.Goals as goal

pub returns : goal.returns
returns c = accepted_are_spoken
