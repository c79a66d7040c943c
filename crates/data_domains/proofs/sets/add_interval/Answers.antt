use Rattle.data_domains.proofs.sets.add_interval.Goals as goal
use Rattle.std.proofs.Common.{arith}
use Rattle.std.proofs.lemmas.Grind.{common_steps}

pub returns-in_ok-push-clause-hollow : goal.returns-in_ok-push-clause-hollow
returns-in_ok-push-clause-hollow c = grind (arith, common_steps)

pub returns-in_ok-push-clause-inside : goal.returns-in_ok-push-clause-inside
returns-in_ok-push-clause-inside c = grind (arith, common_steps)
