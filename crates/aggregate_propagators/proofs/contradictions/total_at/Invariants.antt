use Rattle.std.proofs.Common.{◌≡◌, ◌*◌, ◌^◌, pos, neg_ℤ, ◌+ℤ◌, ◌≤ℤ◌, drop}
use Rattle.ground_core.specs.declared.parts.Part.{Part}
use Rattle.ground_core.specs.Intervals.{known_of}
use Rattle.aggregate_propagators.specs.Reasons.{in_end}
use Rattle.aggregate_propagators.specs.Totals.{total}
use Rattle.aggregate_propagators.specs.Implied.{assigned, under}
use Rattle.aggregate_propagators.specs.Thresholds.{amount_of}
use Rattle.aggregate_propagators.proofs.contradictions.total_at.Given as goal

-- what is summed and what is to come are the whole, and each part so far gains no more than an i64
abbrev pub invariant-loop-part : goal.invariant-loop-part
invariant-loop-part l =
    (l.sum +ℤ total (λ (p : Part). in_end l.fn.high l.fn.kind p.weight
    (known_of (under (assigned l.fn.values) l.fn.with) p.lit)) l.fn.kind (amount_of l.fn.least)
    (drop l.part-index l.fn.parts)
    ≡ total (λ (p : Part). in_end l.fn.high l.fn.kind p.weight
    (known_of (under (assigned l.fn.values) l.fn.with) p.lit)) l.fn.kind (amount_of l.fn.least) l.fn.parts)
    × (neg_ℤ (pos (l.part-index * 2 ^ 63)) ≤ℤ l.sum) × (l.sum ≤ℤ pos (l.part-index * 2 ^ 63))
