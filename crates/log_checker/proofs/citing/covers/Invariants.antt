use Rattle.std.proofs.Common.{List, All, take}
use Rattle.lit_core.specs.declared.literals.Lit.{Lit}
use Rattle.log_checker.specs.Sets.{IsMarked}
use Rattle.log_checker.proofs.Covering.{Covered}
use Rattle.log_checker.proofs.citing.covers.Given as goal

abbrev pub invariant-loop-packed : goal.invariant-loop-packed
invariant-loop-packed l = (lits : List Lit) → IsMarked l.fn.set lits
    → All (Covered lits l.fn.bounds l.fn.other) (take l.packed-index l.clause)
