use Rattle.std.proofs.Common.{◌≡◌, map, drop}
use Rattle.std.specs.List.{list_all}
use Rattle.def_ground.specs.Cases.{is_certain}
use Rattle.def_ground.specs.CaseViews.{case_view}
use Rattle.def_ground.proofs.cases.are_certain.Given as goal

-- all are certain exactly where the rest are
abbrev pub invariant-loop-case : goal.invariant-loop-case
invariant-loop-case l =
    list_all is_certain (map case_view (drop l.case-index l.cases)) ≡ list_all is_certain (map case_view l.cases)
