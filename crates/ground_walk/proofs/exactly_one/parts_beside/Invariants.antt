use Rattle.std.proofs.Common.{◌≡◌, take}
use Rattle.def_ground.specs.Problems.{at_most_one_beside}
use Rattle.ground_walk.proofs.exactly_one.parts_beside.Given as goal

-- the parts of the others so far
abbrev pub invariant-loop-other : goal.invariant-loop-other
invariant-loop-other l = l.parts ≡ (at_most_one_beside l.fn.first (take l.other-index l.others)).parts
