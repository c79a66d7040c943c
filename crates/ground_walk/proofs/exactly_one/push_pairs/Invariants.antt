use Rattle.std.proofs.Common.{◌≡◌, length}
use Rattle.ground_core.specs.Problems.{AreLitsOf}
use Rattle.def_ground.specs.Problems.{pair_clauses}
use Rattle.def_ground.specs.Cases.{with_clauses}
use Rattle.ground_walk.proofs.exactly_one.push_pairs.Given as goal

-- with the pairs of the rest come all
abbrev pub invariant-loop-first : goal.invariant-loop-first
invariant-loop-first l = record {
  all : with_clauses l.problem (pair_clauses l.rest) ≡ with_clauses l.fn.problem (pair_clauses l.lits);
  within : AreLitsOf l.problem.vars l.rest;
}

abbrev pub decreases-loop-first : goal.decreases-loop-first
decreases-loop-first l = length l.rest
