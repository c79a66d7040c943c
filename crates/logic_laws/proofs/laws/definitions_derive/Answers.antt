use Rattle.logic_laws.proofs.Derived.{derived_is_decided, definition_examples}
use Rattle.logic_laws.proofs.laws.definitions_derive.Goals as goal

pub returns : goal.returns
returns c = record { decided = derived_is_decided; examples = definition_examples }
