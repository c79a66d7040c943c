use Rattle.std.proofs.Common.{◌≡◌, map, drop, not}
use Rattle.std.specs.List.{list_all}
use Rattle.def_ground.specs.Cases.{Case, is_always}
use Rattle.def_ground.specs.CaseViews.{case_view}
use Rattle.def_ground.specs.Cases.{side_of}
use Rattle.def_ground.proofs.cases.none_has_always.Given as goal

-- it is so at none exactly where it is so at none of the rest
abbrev pub invariant-loop-case : goal.invariant-loop-case
invariant-loop-case l =
    list_all (λ (c : Case). not (is_always (side_of l.sign c))) (map case_view (drop l.case-index l.cases))
    ≡ list_all (λ (c : Case). not (is_always (side_of l.sign c))) (map case_view l.cases)
