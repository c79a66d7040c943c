use Rattle.certain_truth.proofs.Certain.{some_is_disjunction}
use Rattle.certain_truth.proofs.laws.some_is_disjunction.Goals as goal

pub returns : goal.returns
returns c = some_is_disjunction
