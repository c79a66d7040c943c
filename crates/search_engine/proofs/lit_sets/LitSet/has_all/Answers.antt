use Rattle.std.proofs.Common.{refl, arith}
use Rattle.search_engine.specs.LitSets.{HasLit}
use Rattle.search_engine.proofs.LitSetFacts.{next-all}
use Rattle.search_engine.proofs.lit_sets.LitSet.has_all.Goals as goal

pub loop-lit-preserved : goal.loop-lit-preserved
loop-lit-preserved c = next-all (HasLit c.args.self.now) c.args.lits.now c.loop-lit.lit-index _ c.loop-lit-test.true
    c.loop-lit.invariant (c.if-not-has.ensures.0 refl)

pub returns : goal.returns
returns c = ((λ _ k d lt. c.loop-lit.invariant k d (omega (arith, lt, c.loop-lit-test.false))), (λ _. refl))
