use Rattle.std.proofs.Common.{◌≡◌, map, drop, true, false}
use Rattle.kb_logic.specs.Values.{value_view}
use Rattle.def_ground.specs.Comparisons.{any_where}
use Rattle.def_ground.specs.CaseViews.{guarded_view, compared_with}
use Rattle.def_ground.proofs.SideSteps.{joined}
use Rattle.def_ground.proofs.sides.parted.Given as goal

-- the sides so far, with what the rest adds
abbrev pub invariant-loop-row : goal.invariant-loop-row
invariant-loop-row l = record {
  yes : joined l.yes
      (any_where (λ y. compared_with true l.cmp (value_view l.x) y) (map guarded_view (drop l.row-index l.rows)))
      ≡ any_where (λ y. compared_with true l.cmp (value_view l.x) y) (map guarded_view l.rows);
  no : joined l.no
      (any_where (λ y. compared_with false l.cmp (value_view l.x) y) (map guarded_view (drop l.row-index l.rows)))
      ≡ any_where (λ y. compared_with false l.cmp (value_view l.x) y) (map guarded_view l.rows);
}
