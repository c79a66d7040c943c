use Rattle.std.proofs.Common.{◌≡◌, ◌++◌, map, drop}
use Rattle.def_ground.specs.CaseViews.{guarded_view}
use Rattle.def_ground.specs.Comparisons.{guard_answers}
use Rattle.ground_walk.specs.Groundable.{HaveLits}
use Rattle.ground_walk.proofs.leaves.guard_answers.Given as goal

-- with the answers of the rows that are left come all
abbrev pub invariant-loop-row : goal.invariant-loop-row
invariant-loop-row l = record {
  rows : map guarded_view l.answers.items ++ (guard_answers (drop l.row l.rows) l.problem).rows
      ≡ (guard_answers l.rows l.fn.problem).rows;
  problem : (guard_answers (drop l.row l.rows) l.problem).problem ≡ (guard_answers l.rows l.fn.problem).problem;
  within : HaveLits l.problem.vars (drop l.row l.rows);
}
