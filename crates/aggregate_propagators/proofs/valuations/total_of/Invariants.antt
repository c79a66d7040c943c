use Rattle.std.proofs.Common.{◌≡◌, ◌*◌, ◌^◌, pos, neg_ℤ, ◌+ℤ◌, ◌≤ℤ◌, drop}
use Rattle.lit_core.specs.Literals.{literal_value, valuation}
use Rattle.ground_core.specs.declared.parts.Part.{Part}
use Rattle.aggregate_propagators.specs.Totals.{total}
use Rattle.aggregate_propagators.specs.Thresholds.{amount_of}
use Rattle.aggregate_propagators.proofs.valuations.total_of.Given as goal

-- what is summed and what is to come are the whole, and each part so far gains no more than an i64
abbrev pub invariant-loop-part : goal.invariant-loop-part
invariant-loop-part l =
    (l.sum +ℤ total (λ (p : Part). literal_value (valuation l.fn.values) p.lit) l.fn.c.kind (amount_of l.fn.c.least)
    (drop l.part-index l.fn.parts)
    ≡ total (λ (p : Part). literal_value (valuation l.fn.values) p.lit) l.fn.c.kind (amount_of l.fn.c.least) l.fn.parts)
    × (neg_ℤ (pos (l.part-index * 2 ^ 63)) ≤ℤ l.sum) × (l.sum ≤ℤ pos (l.part-index * 2 ^ 63))
