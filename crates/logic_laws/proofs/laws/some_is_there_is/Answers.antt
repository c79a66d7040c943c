use Rattle.kb_logic.proofs.Choices.{some_is_there_is}
use Rattle.logic_laws.proofs.laws.some_is_there_is.Goals as goal

pub returns : goal.returns
returns c = some_is_there_is
