use Rattle.consultant_session.proofs.ChoiceLemmas.{budget_stays}
use Rattle.consultant_session.proofs.laws.budget_stays.Goals as goal

pub returns : goal.returns
returns c = budget_stays
