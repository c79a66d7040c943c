use Rattle.std.proofs.Common.{[]}
use Rattle.token_reader.proofs.Only.{only_term}
use Rattle.formula_reader.proofs.laws.one_term.Goals as goal

pub returns : goal.returns
returns c = λ x y h k e. (only_term x y [] [] h k tt tt e).0
