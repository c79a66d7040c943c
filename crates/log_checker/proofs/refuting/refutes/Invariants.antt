use Rattle.std.proofs.Common.{drop}
use Rattle.log_checker.specs.Sets.{IsMarked}
use Rattle.log_checker.specs.Refuting.{RefutesFrom}
use Rattle.log_checker.proofs.refuting.refutes.Given as goal

abbrev pub invariant-loop-i : goal.invariant-loop-i
invariant-loop-i l =
    IsMarked l.set l.inforce.items × (RefutesFrom l.clauses l.fn.inforce.items l.hints
    → RefutesFrom l.clauses l.inforce.items (drop l.i l.hints))
    × (RefutesFrom l.clauses l.inforce.items (drop l.i l.hints) → RefutesFrom l.clauses l.fn.inforce.items l.hints)
