use Rattle.consultant_session.proofs.ChoiceLemmas.{same_literal_is_equality}
use Rattle.consultant_session.proofs.laws.same_literal_is_equality.Goals as goal

pub returns : goal.returns
returns c = same_literal_is_equality
