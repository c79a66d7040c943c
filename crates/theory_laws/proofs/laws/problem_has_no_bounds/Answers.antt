use Rattle.theory_laws.proofs.ProblemLaws.{problem-has-no-bounds}
use Rattle.theory_laws.proofs.laws.problem_has_no_bounds.Goals as goal

pub returns : goal.returns
returns c = problem-has-no-bounds
