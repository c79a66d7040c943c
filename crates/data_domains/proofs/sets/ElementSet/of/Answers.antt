use Rattle.data_domains.proofs.sets.ElementSet.of.Goals as goal
use Rattle.std.proofs.Common.{arith}
use Rattle.std.proofs.lemmas.Grind.{common_steps}

pub loop-cell-preserved : goal.loop-cell-preserved
loop-cell-preserved c = grind (arith, common_steps)

pub returns : goal.returns
returns c = grind (arith, common_steps)
