use Rattle.std.proofs.Common.{◌≡◌}
use Rattle.solving_fixtures.proofs.problems.say_all.Given as goal

abbrev pub invariant-loop-lits : goal.invariant-loop-lits
invariant-loop-lits l = record {
  sums : l.problem.sums ≡ l.fn.problem.sums;
  bounds : l.problem.bounds ≡ l.fn.problem.bounds;
  terms : l.problem.terms ≡ l.fn.problem.terms;
  retired : l.problem.retired ≡ l.fn.problem.retired;
}
