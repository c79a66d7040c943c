use Rattle.theory_laws.proofs.ProblemLaws.{problem-is-right}
use Rattle.theory_laws.proofs.laws.problem_is_right.Goals as goal

pub returns : goal.returns
returns c = problem-is-right
