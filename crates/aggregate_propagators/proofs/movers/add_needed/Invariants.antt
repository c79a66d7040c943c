use Rattle.std.proofs.Common.{◌≡◌, ◌++◌, pos, ◌≤ℤ◌, drop}
use Rattle.aggregate_propagators.specs.Looking.{needed, spare_after}
use Rattle.aggregate_propagators.proofs.movers.add_needed.Given as goal

-- what is added and what is to come are the whole
abbrev pub invariant-loop-mover : goal.invariant-loop-mover
invariant-loop-mover l =
    (l.clause ++ needed l.left (drop l.mover-index l.fn.among) ≡ l.initial.clause ++ needed l.fn.spare l.fn.among)
    × (spare_after l.left (drop l.mover-index l.fn.among) ≡ spare_after l.fn.spare l.fn.among) × (pos 0 ≤ℤ l.left)
