use Rattle.row_tries.proofs.rows.Rows.with_words.Goals as goal
use Rattle.std.proofs.Common.{arith}
use Rattle.std.proofs.lemmas.Grind.{elements}

pub invariant_of-result : goal.invariant_of-result
invariant_of-result c = grind (arith, elements)

pub returns-clause-nodes : goal.returns-clause-nodes
returns-clause-nodes c = grind (arith, elements)
