use Rattle.consultant_session.proofs.ChoiceLemmas.{chosen_is_membership}
use Rattle.consultant_session.proofs.laws.chosen_is_membership.Goals as goal

pub returns : goal.returns
returns c = chosen_is_membership
