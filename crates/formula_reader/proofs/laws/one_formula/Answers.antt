use Rattle.std.proofs.Common.{[]}
use Rattle.token_reader.proofs.Ends.{all_stop_formula}
use Rattle.token_reader.proofs.Only.{only_formula}
use Rattle.formula_reader.proofs.laws.one_formula.Goals as goal

pub returns : goal.returns
returns c = λ f g h k e. (only_formula f g [] [] h k (all_stop_formula f [] tt) (all_stop_formula g [] tt) e).0
