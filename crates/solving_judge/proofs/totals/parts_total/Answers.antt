use Rattle.std.proofs.Common.{rules, ◌*◌, ◌+◌, ◌^◌, ◌<◌, fold, drop, length, sym, ap, ◌∙◌, arith}
use Rattle.kb_logic.specs.Arithmetic.{combined}
use Rattle.lit_core.specs.Literals.{valuation}
use Rattle.ground_core.specs.Meaning.{weights_of}
use Rattle.solving_judge.specs.Totals.{denoted}
use Rattle.solving_judge.proofs.TermFacts.{weight-next, weights-first, wider}
use Rattle.solving_judge.proofs.totals.parts_total.Goals as goal

pub loop-part-init : goal.loop-part-init
loop-part-init c = record {
  value = ap (λ d. fold (combined c.args.kind) d (weights_of (valuation c.args.values.now) c.args.parts.now))
      c.start_of-total.ensures.value ∙ weights-first (valuation c.args.values.now) c.args.kind c.args.parts.now;
  size = c.start_of-total.ensures.size;
}

pub with_part-total-requires : goal.with_part-total-requires
with_part-total-requires c =
    let i = c.loop-part.part-index in
    let short : length c.args.parts.now < 2 ^ 63 = search rules in
    wider c.args.kind (i * 2 ^ 63) (2 ^ 126) c.loop-part.total (omega (arith, short, c.loop-part-test.true))
    c.loop-part.invariant.size

pub loop-part-preserved : goal.loop-part-preserved
loop-part-preserved c =
    let i = c.loop-part.part-index in
    let ps = c.args.parts.now in
    let k = c.args.kind in record {
      value = ap (λ d. fold (combined k) d (weights_of (valuation c.args.values.now) (drop (i + 1) ps)))
          c.with_part-total.ensures.value
          ∙ sym (weight-next (valuation c.args.values.now) k ps i _ (denoted c.loop-part.total) c.loop-part-test.true)
          ∙ c.loop-part.invariant.value;
      size = wider k (i * 2 ^ 63 + 2 ^ 63) ((i + 1) * 2 ^ 63) c.with_part-total.result (omega arith)
          (c.with_part-total.ensures.size (i * 2 ^ 63) c.loop-part.invariant.size);
    }

pub returns-clause-size : goal.returns-clause-size
returns-clause-size c =
    let i = c.loop-part.part-index in
    let short : length c.args.parts.now < 2 ^ 63 = search rules in
    wider c.args.kind (i * 2 ^ 63) (2 ^ 126) c.loop-part.total (omega (arith, short, c.loop-part.auto.part-index-end))
    c.loop-part.invariant.size
