use Rattle.std.proofs.Common.{take}
use Rattle.consequences.specs.Indexed.{IsIndexed}
use Rattle.kept_supports.proofs.lits.index_of.Given as goal

abbrev pub invariant-loop-one : goal.invariant-loop-one
invariant-loop-one l = IsIndexed l.lits.keys (take l.one-index l.kept)
