use Rattle.reading_laws.proofs.Derived.{derived_is_well_typed}
use Rattle.reading_laws.proofs.typing_laws.derived_is_well_typed.Goals as goal

pub returns : goal.returns
returns c = derived_is_well_typed
