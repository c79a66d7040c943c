use Rattle.std.proofs.Common.{◌≡◌, length}
use Rattle.log_checker.specs.Cases.{IsFalseAt}
use Rattle.case_derivations.specs.Adding.{Adds}
use Rattle.case_derivations.specs.OpenCases.{in_force, Stands}
use Rattle.case_derivations.proofs.walking.go_back.Given as goal

abbrev pub invariant-loop-case : goal.invariant-loop-case
invariant-loop-case l =
    Adds l.fn.checker l.checker l.fn.text.items l.text.items × (l.checker.problem ≡ l.fn.checker.problem)
    × Stands l.checker.state.vars l.checker.state.clauses l.lits l.cases
    × IsFalseAt l.checker.state.clauses (in_force l.lits l.cases) l.number

abbrev pub decreases-loop-case : goal.decreases-loop-case
decreases-loop-case l = length l.cases
