use Rattle.std.proofs.Common.{List}
use Rattle.lit_core.specs.declared.literals.Lit.{Lit}
use Rattle.log_checker.specs.Sets.{IsMarked}
use Rattle.case_derivations.specs.Looking.{AreAssigned}
use Rattle.case_derivations.proofs.looking.first_unassigned.Given as goal

abbrev pub invariant-loop-before : goal.invariant-loop-before
invariant-loop-before l = (inforce : List Lit) → IsMarked l.fn.set inforce → AreAssigned l.before inforce
