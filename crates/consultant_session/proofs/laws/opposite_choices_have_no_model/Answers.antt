use Rattle.consultant_session.proofs.ChoiceLemmas.{opposite_choices_have_no_model}
use Rattle.consultant_session.proofs.laws.opposite_choices_have_no_model.Goals as goal

pub returns : goal.returns
returns c = opposite_choices_have_no_model
