use Rattle.std.proofs.Common.{◌≡◌, w64, to_z, of_z, ap, ◌∙◌, arith}
use Rattle.kb_logic.specs.Values.{value_view}
use Rattle.def_ground.specs.LinearViews.{linear_view}
use Rattle.def_ground.specs.SumSides.{more_than, with_more, row_spread, spread}
use Rattle.def_ground.proofs.LinearCalls.{next-folded}
use Rattle.def_ground.proofs.sum_sides.spread.Goals as goal

pub loop-row-preserved : goal.loop-row-preserved
loop-row-preserved c =
    let rows = c.args.rows.now in
    let z = to_z w64 (of_z w64 c.args.factor) in
    let m = to_z w64 (of_z w64 c.args.number) in
    let g = c.guards.result.now in
    let x = value_view c.value.result in
    let st = linear_view c.loop-row.linear c.loop-row.problem in
    let next = linear_view c.push_more.new.linear c.push_more.new.problem in
    let made : next ≡ with_more z (more_than m x) g st =
    c.in_ok-push_more.ensures.made ∙ ap (λ o. with_more z o g st) c.in_ok-more.ensures in
    let before = c.loop-row.invariant.grows in
    let after = c.in_ok-push_more.ensures.grows.vars in record {
      same = next-folded (row_spread z m) rows c.loop-row.row g x st next
          (spread z m rows (linear_view c.args.linear.now c.args.problem.now)) c.guards.ensures c.value.ensures
          made c.loop-row.invariant.same;
      grows = omega (arith, before, after);
      parts = c.in_ok-push_more.ensures.grows.within;
    }
