use Rattle.term_values.proofs.RowLaws.{rows-are-right}
use Rattle.term_values.proofs.laws.rows_are_right.Goals as goal

pub returns : goal.returns
returns c = rows-are-right
