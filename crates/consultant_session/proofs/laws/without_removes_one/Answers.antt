use Rattle.consultant_session.proofs.ChoiceLemmas.{without_removes_one}
use Rattle.consultant_session.proofs.laws.without_removes_one.Goals as goal

pub returns : goal.returns
returns c = without_removes_one
