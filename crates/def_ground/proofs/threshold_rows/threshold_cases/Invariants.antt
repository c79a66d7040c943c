use Rattle.std.proofs.Common.{◌≡◌, ◌≤◌, [], fold, map, drop}
use Rattle.std.specs.List.{AllByRecursion}
use Rattle.def_ground.specs.CaseViews.{case_view}
use Rattle.def_ground.specs.LinearViews.{linear_view}
use Rattle.def_ground.specs.Meanings.{IsCaseOf}
use Rattle.def_ground.specs.Thresholds.{threshold_step}
use Rattle.def_ground.proofs.threshold_rows.threshold_cases.Given as goal

-- with the cases of the rows that are left come all
abbrev pub invariant-loop-row : goal.invariant-loop-row
invariant-loop-row l =
    let step = threshold_step l.fn.kind l.fn.cmp (linear_view l.fn.linear l.fn.problem) in
    record {
      same : fold step (record { cases = map case_view l.cases.items; problem = l.problem }) (drop l.row l.rows)
          ≡ fold step (record { cases = []; problem = l.fn.problem }) l.rows;
      within : AllByRecursion (IsCaseOf l.problem.vars) (map case_view l.cases.items);
      grows : l.fn.problem.vars ≤ l.problem.vars;
    }
