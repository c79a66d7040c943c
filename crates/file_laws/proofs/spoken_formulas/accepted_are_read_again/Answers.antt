use Rattle.file_laws.proofs.SpokenAccepted.{accepted_are_read_again}
use Rattle.file_laws.proofs.spoken_formulas.accepted_are_read_again.Goals as goal

pub returns : goal.returns
returns c = accepted_are_read_again
