use Rattle.std.proofs.Common.{◌≡◌, map, drop, filter}
use Rattle.def_ground.specs.Cases.{Case, is_always, only_guard}
use Rattle.def_ground.specs.CaseViews.{case_view}
use Rattle.def_ground.specs.Cases.{side_of}
use Rattle.def_ground.proofs.cases.only_guard.Given as goal

-- those before have no such side
abbrev pub invariant-loop-place : goal.invariant-loop-place
invariant-loop-place l =
    only_guard (filter (λ (c : Case). is_always (side_of l.sign c)) (map case_view (drop l.place l.cases)))
    ≡ only_guard (filter (λ (c : Case). is_always (side_of l.sign c)) (map case_view l.cases))
