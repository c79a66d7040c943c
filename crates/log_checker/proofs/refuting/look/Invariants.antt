use Rattle.std.proofs.Common.{List, take}
use Rattle.lit_core.specs.declared.literals.Lit.{Lit}
use Rattle.log_checker.specs.Sets.{IsMarked}
use Rattle.log_checker.specs.Refuting.{IsOpen}
use Rattle.log_checker.proofs.refuting.look.Given as goal

abbrev pub invariant-loop-packed : goal.invariant-loop-packed
invariant-loop-packed l = (inforce : List Lit) → IsMarked l.fn.set inforce
    → IsOpen inforce (take l.packed-index l.clause) l.open
