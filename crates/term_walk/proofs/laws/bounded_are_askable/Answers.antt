use Rattle.term_walk.proofs.AskableLaws.{bounded-askable}
use Rattle.term_walk.proofs.laws.bounded_are_askable.Goals as goal

pub returns : goal.returns
returns c = λ b t given typed none bounded. bounded-askable b given t typed none bounded
