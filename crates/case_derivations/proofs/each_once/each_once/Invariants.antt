use Rattle.std.proofs.Common.{take}
use Rattle.log_checker.specs.Sets.{IsMarked}
use Rattle.case_derivations.specs.Once.{IsOnceOf}
use Rattle.case_derivations.proofs.each_once.each_once.Given as goal

abbrev pub invariant-loop-lit : goal.invariant-loop-lit
invariant-loop-lit l = IsMarked l.set l.chosen.items × IsOnceOf (take l.lit-index l.lits) l.chosen.items
