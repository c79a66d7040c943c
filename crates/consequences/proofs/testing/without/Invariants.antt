use Rattle.std.proofs.Common.{List, ◌++◌, drop}
use Rattle.lit_core.specs.declared.literals.Lit.{Lit}
use Rattle.consequences.specs.Forced.{IsWithout}
use Rattle.consequences.proofs.testing.without.Given as goal

abbrev pub invariant-loop-other : goal.invariant-loop-other
invariant-loop-other l = (rest : List Lit) → IsWithout l.lit (drop l.other-index l.lits) rest
    → IsWithout l.lit l.lits (l.list ++ rest)
