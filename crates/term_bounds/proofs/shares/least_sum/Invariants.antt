use Rattle.std.proofs.Common.{◌≡◌, ◌*◌, ◌^◌, pos, neg_ℤ, ◌+ℤ◌, ◌≤ℤ◌, drop}
use Rattle.kb_logic.specs.declared.elements.ExtInt.{ExtInt}
use Rattle.kb_logic.specs.declared.syntax.AggKind.TheVariants as kind
use Rattle.term_bounds.specs.Shares.{least_total}
use Rattle.term_bounds.proofs.shares.least_sum.Given as goal

-- what is summed and what is to come are the whole, and each part so far counts no more than an i64
abbrev pub invariant-loop-part : goal.invariant-loop-part
invariant-loop-part l =
    ((bound : ExtInt) → l.sum +ℤ least_total l.fn.assignment kind.Sum bound (drop l.part-index l.fn.parts)
    ≡ least_total l.fn.assignment kind.Sum bound l.fn.parts)
    × (neg_ℤ (pos (l.part-index * 2 ^ 63)) ≤ℤ l.sum) × (l.sum ≤ℤ pos (l.part-index * 2 ^ 63))
