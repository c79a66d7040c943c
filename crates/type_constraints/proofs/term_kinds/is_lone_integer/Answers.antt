use Rattle.type_constraints.proofs.Integers.{several}
use Rattle.type_constraints.proofs.term_kinds.is_lone_integer.Goals as goal

pub returns-in-len2-up : goal.returns-in-len2-up
returns-in-len2-up c = several c.args.operands.now c.in-len2-up.len_at_least
