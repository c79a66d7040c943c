use Rattle.theory_laws.proofs.Models.{completion-is-right}
use Rattle.theory_laws.proofs.laws.completion_is_right.Goals as goal

pub returns : goal.returns
returns c = completion-is-right
