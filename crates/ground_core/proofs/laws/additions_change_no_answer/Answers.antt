use Rattle.ground_core.proofs.RetiredFacts.{no-answer-changes}
use Rattle.ground_core.proofs.laws.additions_change_no_answer.Goals as goal

pub returns : goal.returns
returns c = no-answer-changes
