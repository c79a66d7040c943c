use Rattle.kept_supports.proofs.SupportFacts.{choices_may_go}
use Rattle.kept_supports.proofs.laws.choices_may_go.Goals as goal

pub returns : goal.returns
returns c = choices_may_go
