use Rattle.std.proofs.Common.{None, fold}
use Rattle.kb_logic.specs.Values.{value_view}
use Rattle.def_ground.specs.SumSides.{with_value}
use Rattle.def_ground.proofs.LinearCalls.{next-valued}
use Rattle.def_ground.proofs.sum_sides.outermost.Goals as goal

pub loop-row-preserved : goal.loop-row-preserved
loop-row-preserved c =
    let rows = c.args.rows.now in
    let step = with_value c.args.high in
    next-valued step rows c.loop-row.row (value_view c.value.result) c.loop-row.most c.with_value-most.result
    (fold (λ o r. step o r.1) None rows) c.value.ensures c.with_value-most.ensures c.loop-row.invariant
