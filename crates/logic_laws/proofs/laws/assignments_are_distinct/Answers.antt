use Rattle.kb_logic.proofs.Choices.{assignments_are_distinct}
use Rattle.logic_laws.proofs.laws.assignments_are_distinct.Goals as goal

pub returns : goal.returns
returns c = assignments_are_distinct
