use Rattle.logic_laws.proofs.TypedExamples.{typing_examples}
use Rattle.logic_laws.proofs.laws.typing_examples.Goals as goal

pub returns : goal.returns
returns c = typing_examples
