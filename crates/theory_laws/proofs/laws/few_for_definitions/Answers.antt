use Rattle.theory_laws.proofs.Fewness.{few-for-definitions}
use Rattle.theory_laws.proofs.laws.few_for_definitions.Goals as goal

pub returns : goal.returns
returns c = few-for-definitions
