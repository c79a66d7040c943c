use Rattle.row_tries.proofs.words.Words.of.Goals as goal
use Rattle.std.proofs.Common.{arith}
use Rattle.std.proofs.lemmas.Grind.{common_steps}

pub loop-elem-preserved : goal.loop-elem-preserved
loop-elem-preserved c = grind (arith, common_steps)

pub loop-domain-preserved : goal.loop-domain-preserved
loop-domain-preserved c = grind (arith, common_steps)

pub returns : goal.returns
returns c = grind (arith, common_steps)
