use Rattle.std.proofs.Common.{fold, arith}
use Rattle.kb_logic.specs.Values.{value_view}
use Rattle.def_ground.specs.Linear.{row_step}
use Rattle.def_ground.specs.LinearViews.{linear_view}
use Rattle.def_ground.proofs.Growing.{lits-more}
use Rattle.def_ground.proofs.LinearCalls.{guards-at, next-folded}
use Rattle.def_ground.proofs.LinearSteps.{answer-later}
use Rattle.def_ground.proofs.linear.push_weighed.Goals as goal

pub push_row-requires-clause-answer : goal.push_row-requires-clause-answer
push_row-requires-clause-answer c =
    answer-later c.args.problem.now.vars c.loop-row.problem.vars c.loop-row.invariant.grows c.args.how.answer
    c.requires.answer

pub push_row-requires-clause-guards : goal.push_row-requires-clause-guards
push_row-requires-clause-guards c =
    lits-more c.args.problem.now.vars c.loop-row.problem.vars c.loop-row.invariant.grows c.guards.result.now
    (guards-at c.args.problem.now.vars c.args.rows.now c.loop-row.row c.guards.result.now c.requires.rows
    c.guards.ensures)

pub loop-row-preserved : goal.loop-row-preserved
loop-row-preserved c =
    let rows = c.args.rows.now in
    let step = row_step c.args.how.kind c.args.how.factor c.args.how.answer in
    let before = c.loop-row.invariant.grows in
    let after = c.in_ok-push_row.ensures.grows.vars in record {
      same = next-folded step rows c.loop-row.row c.guards.result.now (value_view c.value.result)
          (linear_view c.loop-row.linear c.loop-row.problem) (linear_view c.push_row.new.linear c.push_row.new.problem)
          (fold step (linear_view c.args.linear.now c.args.problem.now) rows) c.guards.ensures c.value.ensures
          c.in_ok-push_row.ensures.made c.loop-row.invariant.same;
      grows = omega (arith, before, after);
      parts = c.in_ok-push_row.ensures.grows.within;
    }
