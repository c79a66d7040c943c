use Rattle.def_ground.proofs.SentenceLaws.{one-each}
use Rattle.def_ground.proofs.laws.one_each_by_clauses.Goals as goal

pub returns : goal.returns
returns c = one-each
