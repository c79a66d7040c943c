use Rattle.reading_laws.proofs.TypedOver.{accepted_is_typed_over}
use Rattle.reading_laws.proofs.typing_laws.accepted_is_typed_over.Goals as goal

pub returns : goal.returns
returns c = accepted_is_typed_over c.theories_have_places.ensures c.blocks_have_places.ensures
