use Rattle.std.proofs.Common.{◌+◌, ◌<◌, map, drop, length, subst, arith}
use Rattle.std.specs.List.{AllByRecursion}
use Rattle.def_ground.specs.AskedTerms.{weigh_all}
use Rattle.term_walk.specs.Askable.{summand_view, weighted, others_of, HasSmallRows, HasRowsIn}
use Rattle.term_walk.proofs.AskedSteps.{left-more, next-summand-same, summands-more}
use Rattle.term_walk.proofs.terms.push_all.Goals as goal

pub loop-summand-preserved : goal.loop-summand-preserved
loop-summand-preserved c =
    let xs = c.args.summands.now in
    let i = c.loop-summand.summand-index in
    let s = c.summand-item.result in
    let inside : i < length xs = omega (arith, c.loop-summand-test.true, c.loop-summand.auto.summand-index-end) in
    let after = map summand_view (drop (i + 1) xs) in
    let e = left-more xs i s inside c.summand-item.is in
    let p = c.loop-summand.problem in
    let q = c.push_others.new.problem in
    let made = c.in_ok-push_others.ensures.made in
    let grows = c.in_ok-push_others.ensures.grows in
    let before = c.loop-summand.invariant.grows in
    let small = subst (AllByRecursion HasSmallRows) e c.loop-summand.invariant.small in
    let within = subst (AllByRecursion (HasRowsIn p.vars)) e c.loop-summand.invariant.within in
    record {
      same = next-summand-same (summand_view s) (map summand_view (drop i xs)) after (weighted c.loop-summand.parts p)
          (weighted c.push_others.new.parts q)
          (weigh_all (others_of (map summand_view xs)) (weighted c.args.parts.now c.args.problem.now)) e made
          c.loop-summand.invariant.same;
      small = small.1;
      within = summands-more p.vars q.vars grows after within.1;
      parts = c.in_ok-push_others.ensures.within;
      grows = omega (arith, before, grows);
    }
