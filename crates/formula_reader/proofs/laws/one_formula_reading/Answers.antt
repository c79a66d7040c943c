use Rattle.std.proofs.Common.{[]}
use Rattle.grammar.specs.Spelling.{put_formula}
use Rattle.grammar.specs.Fine.{FineFormula}
use Rattle.token_reader.proofs.Ends.{all_stop_formula}
use Rattle.token_reader.proofs.Only.{only_formula}
use Rattle.formula_reader.proofs.OneReading.{one_reading}
use Rattle.formula_reader.proofs.laws.one_formula_reading.Goals as goal

pub returns : goal.returns
returns c = λ src r s h k. one_reading put_formula FineFormula
    (λ f g x y e. (only_formula f g [] [] x y (all_stop_formula f [] tt) (all_stop_formula g [] tt) e).0) src r s h k
