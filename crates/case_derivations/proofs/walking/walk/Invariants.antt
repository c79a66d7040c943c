use Rattle.std.proofs.Common.{◌≡◌}
use Rattle.case_derivations.specs.Adding.{Adds}
use Rattle.case_derivations.specs.OpenCases.{Stands}
use Rattle.case_derivations.proofs.walking.walk.Given as goal

abbrev pub invariant-loop-turn : goal.invariant-loop-turn
invariant-loop-turn l =
    Adds l.fn.checker l.checker l.fn.text.items l.text.items × (l.checker.problem ≡ l.fn.checker.problem)
    × Stands l.checker.state.vars l.checker.state.clauses l.lits l.cases
