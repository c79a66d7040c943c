use Rattle.std.proofs.Common.{◌+◌, [], map, drop, subst}
use Rattle.kb_logic.specs.Trees.{SummandTrees, summands_of}
use Rattle.kb_logic.specs.Views.{signed_view, term_view}
use Rattle.term_values.specs.RowArithmetic.{OperandRowsFit}
use Rattle.term_walk.proofs.AskedSteps.{operands-left, next-operand}
use Rattle.term_walk.proofs.terms.operands.Goals as goal

pub summand-requires : goal.summand-requires
summand-requires c =
    let i = c.loop-part.part-index in
    let e = operands-left c.args.parts.now i c.part-item.result c.loop-part-test.true c.part-item.is in
    let fits = subst (λ (ss : SummandTrees). OperandRowsFit c.args.base.now ss []) e c.loop-part.invariant.fits in
    fits.0

pub loop-part-preserved : goal.loop-part-preserved
loop-part-preserved c =
    let b = c.args.base.now in
    let parts = c.args.parts.now in
    let i = c.loop-part.part-index in
    let s = c.part-item.result in
    let e = operands-left parts i s c.loop-part-test.true c.part-item.is in
    let after = summands_of (map signed_view (drop (i + 1) parts)) in
    let fits = subst (λ (ss : SummandTrees). OperandRowsFit b ss []) e c.loop-part.invariant.fits in
    record {
      same = next-operand b (summands_of (map signed_view parts)) (summands_of (map signed_view (drop i parts))) after
          s.minus (term_view s.term) c.loop-part.summands.items c.push.new.self.items c.in_ok-next.next e
          c.in_ok-push.ensures.items c.in_ok-next.ensures c.loop-part.invariant.same;
      fits = fits.1;
    }
