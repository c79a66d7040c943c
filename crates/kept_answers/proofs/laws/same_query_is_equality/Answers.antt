use Rattle.kept_answers.proofs.AnswerFacts.{same_query_is_equality}
use Rattle.kept_answers.proofs.laws.same_query_is_equality.Goals as goal

pub returns : goal.returns
returns c = same_query_is_equality
