use Rattle.std.proofs.Common.{◌≡◌, ◌++◌, pos, ◌≤ℤ◌, drop}
use Rattle.aggregate_propagators.specs.Implied.{assigned, under}
use Rattle.aggregate_propagators.specs.Spared.{spare_at, spared}
use Rattle.aggregate_propagators.specs.Thresholds.{amount_of, constraint_of}
use Rattle.aggregate_propagators.proofs.explained.reasons.Given as goal

-- what is pushed and what is to come are the whole
abbrev pub invariant-loop-part : goal.invariant-loop-part
invariant-loop-part l =
    (l.clause
    ++ spared (under (assigned l.fn.values) l.fn.with) l.fn.high l.fn.c.kind (amount_of l.fn.c.least) l.spare
    (drop l.part-index l.fn.parts)
    ≡ spared (under (assigned l.fn.values) l.fn.with) l.fn.high l.fn.c.kind (amount_of l.fn.c.least)
    (spare_at (under (assigned l.fn.values) l.fn.with) l.fn.high (constraint_of l.fn.c l.fn.parts)) l.fn.parts)
    × (pos 0 ≤ℤ l.spare)
