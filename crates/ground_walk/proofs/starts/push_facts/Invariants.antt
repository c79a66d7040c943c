use Rattle.std.proofs.Common.{◌≡◌, take}
use Rattle.def_ground.specs.Cases.{with_clauses}
use Rattle.def_ground.specs.Problems.{fact_clauses}
use Rattle.ground_walk.proofs.starts.push_facts.Given as goal

-- the facts so far
abbrev pub invariant-loop-place : goal.invariant-loop-place
invariant-loop-place l = l.problem ≡ with_clauses l.fn.problem (fact_clauses 1 (take l.place l.base.known))
