use Rattle.term_values.proofs.FewRows.{term-few}
use Rattle.term_values.proofs.TypedLaws.{typed-term}
use Rattle.term_values.proofs.laws.rows_are_few.Goals as goal

pub returns : goal.returns
returns c = λ b t scope e given types typed.
    term-few b scope e types t (typed-term b.vocabulary b.domains given t scope typed)
