use Rattle.kept_answers.proofs.AnswerFacts.{kept_is_there}
use Rattle.kept_answers.proofs.laws.kept_is_there.Goals as goal

pub returns : goal.returns
returns c = kept_is_there
