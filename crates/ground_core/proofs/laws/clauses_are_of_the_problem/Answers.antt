use Rattle.ground_core.proofs.Whole.{clauses-within}
use Rattle.ground_core.proofs.laws.clauses_are_of_the_problem.Goals as goal

pub returns : goal.returns
returns c = clauses-within
