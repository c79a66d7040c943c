use Rattle.std.proofs.Common.{◌≡◌, take}
use Rattle.def_ground.specs.Problems.{open_variables}
use Rattle.ground_walk.proofs.exactly_one.variables.Given as goal

-- the variables so far
abbrev pub invariant-loop-place : goal.invariant-loop-place
invariant-loop-place l = l.lits ≡ open_variables l.base l.first (take l.place l.values)
