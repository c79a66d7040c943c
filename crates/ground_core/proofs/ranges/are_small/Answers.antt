use Rattle.std.proofs.Common.{All, get_or, take, refl, sym, subst, arith}
use Rattle.std.proofs.lemmas.List.{take_more, take_all}
use Rattle.std.proofs.lemmas.List.Elements.{All-push}
use Rattle.ground_core.specs.Ranges.{IsSmall}
use Rattle.ground_core.proofs.ranges.are_small.Goals as goal

pub loop-term-preserved : goal.loop-term-preserved
loop-term-preserved c =
    let terms = c.args.terms.now in
    let here = c.loop-term.term-index in
    subst (All IsSmall) (sym (take_more terms here c.term-item.result c.loop-term-test.true))
    (All-push IsSmall (take here terms) (get_or terms here c.term-item.result) c.loop-term.invariant
    (subst IsSmall c.term-item.is (c.is_small.ensures.0 c.if-not-is_small.false)))

pub returns : goal.returns
returns c = (
  λ _. subst (All IsSmall) (take_all c.loop-term.term-index c.args.terms.now
      (omega (arith, c.loop-term-test.false))) c.loop-term.invariant,
  λ _. refl,
)
