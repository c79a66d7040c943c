use Rattle.kept_answers.proofs.AnswerFacts.{last_is_kept}
use Rattle.kept_answers.proofs.laws.last_is_kept.Goals as goal

pub returns : goal.returns
returns c = last_is_kept
