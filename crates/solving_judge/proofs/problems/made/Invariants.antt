use Rattle.std.proofs.Common.{◌≡◌, []}
use Rattle.solving_judge.proofs.problems.made.Given as goal

-- nothing is said of bounds
abbrev pub invariant-loop-it : goal.invariant-loop-it
invariant-loop-it l = record {
  bounds : l.problem.bounds ≡ [];
  retired : l.problem.retired ≡ [];
}
