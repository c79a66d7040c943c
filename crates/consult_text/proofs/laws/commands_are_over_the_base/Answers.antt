use Rattle.consult_text.proofs.Meanings.{commands_over}
use Rattle.consult_text.proofs.laws.commands_are_over_the_base.Goals as goal

pub returns : goal.returns
returns c = commands_over
