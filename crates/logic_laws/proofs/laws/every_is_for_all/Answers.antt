use Rattle.kb_logic.proofs.Choices.{every_is_for_all}
use Rattle.logic_laws.proofs.laws.every_is_for_all.Goals as goal

pub returns : goal.returns
returns c = every_is_for_all
