use Rattle.reading_laws.proofs.WellFormed.{derived_is_well_formed}
use Rattle.reading_laws.proofs.typing_laws.derived_is_well_formed.Goals as goal

pub returns : goal.returns
returns c = derived_is_well_formed
