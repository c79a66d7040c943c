use Rattle.theory_laws.proofs.FewTheories.{problem-is-small}
use Rattle.theory_laws.proofs.laws.problem_is_small.Goals as goal

pub returns : goal.returns
returns c = problem-is-small
