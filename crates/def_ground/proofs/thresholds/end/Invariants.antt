use Rattle.std.proofs.Common.{◌≡◌, ◌*◌, ◌^◌, pos, neg_ℤ, ◌+ℤ◌, ◌≤ℤ◌, drop}
use Rattle.def_ground.specs.LinearViews.{end_of}
use Rattle.def_ground.proofs.thresholds.end.Given as goal

-- what is summed and what is to come are the whole, and each part so far adds no more than an i64
abbrev pub invariant-loop-part : goal.invariant-loop-part
invariant-loop-part l =
    (l.total +ℤ end_of l.high (drop l.part-index l.fn.parts) ≡ end_of l.high l.fn.parts)
    × (neg_ℤ (pos (l.part-index * 2 ^ 63)) ≤ℤ l.total) × (l.total ≤ℤ pos (l.part-index * 2 ^ 63))
