use Rattle.std.proofs.Common.{[]}
use Rattle.grammar.specs.Spelling.{put_term}
use Rattle.grammar.specs.Fine.{FineTerm}
use Rattle.token_reader.proofs.Only.{only_term}
use Rattle.formula_reader.proofs.OneReading.{one_reading}
use Rattle.formula_reader.proofs.laws.one_term_reading.Goals as goal

pub returns : goal.returns
returns c = λ src r s h k. one_reading put_term FineTerm (λ x y h k e. (only_term x y [] [] h k tt tt e).0) src r s h k
