use Rattle.reading_laws.proofs.Rows.{accepted_is_given}
use Rattle.reading_laws.proofs.data_laws.accepted_is_given.Goals as goal

pub returns : goal.returns
returns c = accepted_is_given
