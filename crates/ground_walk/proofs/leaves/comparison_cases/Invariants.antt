use Rattle.std.proofs.Common.{◌≡◌, map, take}
use Rattle.term_values.specs.Rows.{map_rows}
use Rattle.def_ground.specs.CaseViews.{case_view, guarded_view}
use Rattle.def_ground.specs.Comparisons.{comparison_case}
use Rattle.def_ground.specs.SumSides.{raised}
use Rattle.ground_walk.proofs.leaves.comparison_cases.Given as goal

-- the cases so far
abbrev pub invariant-loop-row : goal.invariant-loop-row
invariant-loop-row l =
    map case_view l.cases.items
    ≡ map (comparison_case l.fn.rows.cmp (map guarded_view l.right))
    (map_rows (raised l.fn.rows.base) (take l.row l.left))
