use Rattle.ground_core.proofs.Whole.{whole}
use Rattle.ground_core.proofs.laws.clauses_say_the_problem.Goals as goal

pub returns : goal.returns
returns c = whole
