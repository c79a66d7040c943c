use Rattle.kb_logic.proofs.Choices.{count_is_length}
use Rattle.logic_laws.proofs.laws.count_is_length.Goals as goal

pub returns : goal.returns
returns c = count_is_length
