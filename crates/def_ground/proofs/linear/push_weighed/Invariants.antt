use Rattle.std.proofs.Common.{◌≡◌, ◌≤◌, fold, drop}
use Rattle.ground_core.specs.Problems.{ArePartsOf}
use Rattle.def_ground.specs.Linear.{row_step}
use Rattle.def_ground.specs.LinearViews.{linear_view}
use Rattle.def_ground.proofs.linear.push_weighed.Given as goal

-- with the rows that are left come all
abbrev pub invariant-loop-row : goal.invariant-loop-row
invariant-loop-row l =
    let step = row_step l.fn.how.kind l.fn.how.factor l.fn.how.answer in
    record {
      same : fold step (linear_view l.linear l.problem) (drop l.row l.rows)
          ≡ fold step (linear_view l.fn.linear l.fn.problem) l.rows;
      grows : l.fn.problem.vars ≤ l.problem.vars;
      parts : ArePartsOf l.problem.vars l.linear.parts;
    }
