use Rattle.consultant_session.proofs.ChoiceLemmas.{choices_stay_distinct}
use Rattle.consultant_session.proofs.laws.choices_stay_distinct.Goals as goal

pub returns : goal.returns
returns c = choices_stay_distinct
