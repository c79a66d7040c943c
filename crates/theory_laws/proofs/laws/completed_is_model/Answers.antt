use Rattle.theory_laws.proofs.Models.{completed-is-model}
use Rattle.theory_laws.proofs.laws.completed_is_model.Goals as goal

pub returns : goal.returns
returns c = completed-is-model
