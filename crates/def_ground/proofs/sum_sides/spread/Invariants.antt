use Rattle.std.proofs.Common.{◌≡◌, ◌≤◌, fold, drop}
use Rattle.ground_core.specs.Problems.{ArePartsOf}
use Rattle.def_ground.specs.LinearViews.{linear_view}
use Rattle.def_ground.specs.SumSides.{row_spread, spread}
use Rattle.def_ground.proofs.sum_sides.spread.Given as goal

-- with the rows that are left come all
abbrev pub invariant-loop-row : goal.invariant-loop-row
invariant-loop-row l =
    record {
      same : fold (row_spread l.fn.factor l.fn.number) (linear_view l.linear l.problem) (drop l.row l.rows)
          ≡ spread l.fn.factor l.fn.number l.rows (linear_view l.fn.linear l.fn.problem);
      grows : l.fn.problem.vars ≤ l.problem.vars;
      parts : ArePartsOf l.problem.vars l.linear.parts;
    }
