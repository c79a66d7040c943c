use Rattle.std.proofs.Common.{rules, get_or, refl, false}
use Rattle.log_checker.proofs.Turning.{mk, put-marked}
use Rattle.case_derivations.proofs.Distinct.{opposites-found, kept-before, kept-now}
use Rattle.case_derivations.proofs.each_once.each_once.Goals as goal

pub returns-then-has : goal.returns-then-has
returns-then-has c =
    let lit = get_or c.args.lits.now c.loop-lit.lit-index (mk 0 false) in
    opposites-found c.loop-lit.set c.args.lits.now c.loop-lit.chosen.items c.loop-lit.lit-index (mk 0 false) lit
    c.loop-lit-test.true refl c.loop-lit.invariant.0 c.loop-lit.invariant.1 (search rules)

pub loop-lit-preserved-then-has-2 : goal.loop-lit-preserved-then-has-2
loop-lit-preserved-then-has-2 c =
    let lit = get_or c.args.lits.now c.loop-lit.lit-index (mk 0 false) in (
      c.loop-lit.invariant.0,
      kept-before c.loop-lit.set c.args.lits.now c.loop-lit.chosen.items c.loop-lit.lit-index (mk 0 false) lit
          c.loop-lit-test.true refl c.loop-lit.invariant.0 c.loop-lit.invariant.1 (search rules),
    )

pub loop-lit-preserved : goal.loop-lit-preserved
loop-lit-preserved c =
    let lit = get_or c.args.lits.now c.loop-lit.lit-index (mk 0 false) in
    rw (c.in_ok-push.ensures.items) (
      put-marked c.loop-lit.set c.mark.new.self lit c.loop-lit.chosen.items (search rules) c.loop-lit.invariant.0,
      kept-now c.loop-lit.set c.args.lits.now c.loop-lit.chosen.items c.loop-lit.lit-index (mk 0 false) lit
          c.loop-lit-test.true refl c.loop-lit.invariant.0 c.loop-lit.invariant.1 (search rules) (search rules),
    )
