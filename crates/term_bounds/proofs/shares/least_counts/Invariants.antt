use Rattle.std.proofs.Common.{◌≡◌, ◌*◌, ◌^◌, pos, neg_ℤ, ◌+ℤ◌, ◌≤ℤ◌, drop}
use Rattle.term_bounds.specs.Amounts.{amount_of}
use Rattle.term_bounds.specs.Shares.{least_total}
use Rattle.term_bounds.proofs.shares.least_counts.Given as goal

-- what is summed and what is to come are the whole, and each part so far counts no more than an i64
abbrev pub invariant-loop-part : goal.invariant-loop-part
invariant-loop-part l =
    (l.sum +ℤ least_total l.fn.assignment l.fn.line.kind (amount_of l.fn.line.bound) (drop l.part-index l.fn.parts)
    ≡ least_total l.fn.assignment l.fn.line.kind (amount_of l.fn.line.bound) l.fn.parts)
    × (neg_ℤ (pos (l.part-index * 2 ^ 63)) ≤ℤ l.sum) × (l.sum ≤ℤ pos (l.part-index * 2 ^ 63))
