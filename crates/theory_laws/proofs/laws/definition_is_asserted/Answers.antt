use Rattle.theory_laws.proofs.Models.{definition-is-asserted}
use Rattle.theory_laws.proofs.laws.definition_is_asserted.Goals as goal

pub returns : goal.returns
returns c = definition-is-asserted
