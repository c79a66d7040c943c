use Rattle.std.proofs.Common.{◌≡◌}
use Rattle.solving_judge.proofs.asking.wrong_within.Given as goal

-- neither what was added nor the problem of brute force changes
abbrev pub invariant-loop-limit : goal.invariant-loop-limit
invariant-loop-limit l = record {
  events : l.sides.events ≡ l.fn.sides.events;
  force : l.sides.force ≡ l.fn.sides.force;
}
