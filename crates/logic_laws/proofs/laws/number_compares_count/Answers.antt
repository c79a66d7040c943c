use Rattle.kb_logic.proofs.Choices.{number_compares_count}
use Rattle.logic_laws.proofs.laws.number_compares_count.Goals as goal

pub returns : goal.returns
returns c = number_compares_count
