use Rattle.clause_store.proofs.propagation.find_in.Goals as goal
use Rattle.std.proofs.Common.{arith}
use Rattle.std.proofs.lemmas.Grind.{common_steps}
use Rattle.std.proofs.lemmas.Grind.{elements}

pub loop-place-preserved : goal.loop-place-preserved
loop-place-preserved c = grind (arith, common_steps)

pub returns-then-ne-2 : goal.returns-then-ne-2
returns-then-ne-2 c = grind (arith, elements)

pub returns : goal.returns
returns c = grind (arith, elements)
