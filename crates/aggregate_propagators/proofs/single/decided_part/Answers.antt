use Rattle.std.proofs.Common.{All, subst, arith}
use Rattle.std.proofs.lemmas.List.{take_all}
use Rattle.std.proofs.lemmas.List.Elements.{All-more}
use Rattle.ground_core.specs.declared.parts.Part.{Part}
use Rattle.ground_core.specs.Intervals.{IsOpenAt}
use Rattle.aggregate_propagators.specs.Implied.{assigned}
use Rattle.aggregate_propagators.specs.Thresholds.{constraint_of}
use Rattle.aggregate_propagators.proofs.ListFacts.{no_part}
use Rattle.aggregate_propagators.proofs.Singles.{result-open}
use Rattle.aggregate_propagators.proofs.single.decided_part.Goals as goal

pub returns-in-Some-clause-some : goal.returns-in-Some-clause-some
returns-in-Some-clause-some c = (
  c.in-Some.ensures.some.0,
  λ h. c.in-Some.ensures.some.1 (h.1 c.loop-part.part-index no_part c.loop-part-test.true),
)

pub loop-part-preserved : goal.loop-part-preserved
loop-part-preserved c =
    let con = constraint_of c.args.end.of c.args.parts.now in
    All-more (λ (p : Part). IsOpenAt (assigned c.args.values.now) con p.lit) c.args.parts.now c.loop-part.part-index
    no_part c.loop-part-test.true c.loop-part.invariant c.in_default.ensures.none

pub returns-clause-none : goal.returns-clause-none
returns-clause-none c =
    let con = constraint_of c.args.end.of c.args.parts.now in (
      result-open (assigned c.args.values.now) con c.args.end.high c.requires.end.out,
      subst (All (λ (p : Part). IsOpenAt (assigned c.args.values.now) con p.lit))
          (take_all c.loop-part.part-index c.args.parts.now
          (omega (arith, c.loop-part-test.false))) c.loop-part.invariant,
    )
