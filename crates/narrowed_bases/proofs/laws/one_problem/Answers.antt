use Rattle.narrowed_bases.proofs.One.{one_problem}
use Rattle.narrowed_bases.proofs.laws.one_problem.Goals as goal

pub returns : goal.returns
returns c = one_problem
