use Rattle.std.proofs.Common.{◌≡◌, ◌*◌, ◌^◌, drop, fold}
use Rattle.kb_logic.specs.Arithmetic.{combined}
use Rattle.lit_core.specs.Literals.{valuation}
use Rattle.ground_core.specs.Meaning.{parts_value, weights_of}
use Rattle.solving_judge.specs.Totals.{denoted, IsOf}
use Rattle.solving_judge.proofs.totals.parts_total.Given as goal

-- the total so far gives with the rest what all give, and each part so far adds no more than an i64
abbrev pub invariant-loop-part : goal.invariant-loop-part
invariant-loop-part l = record {
  value : fold (combined l.fn.kind) (denoted l.total)
      (weights_of (valuation l.fn.values) (drop l.part-index l.fn.parts))
      ≡ parts_value (valuation l.fn.values) l.fn.kind l.fn.parts;
  size : IsOf l.fn.kind (l.part-index * 2 ^ 63) l.total;
}
