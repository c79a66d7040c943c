use Rattle.reading_laws.proofs.Consistent.{given_is_consistent}
use Rattle.reading_laws.proofs.data_laws.given_is_consistent.Goals as goal

pub returns : goal.returns
returns c = given_is_consistent
