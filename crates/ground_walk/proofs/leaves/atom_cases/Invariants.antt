use Rattle.std.proofs.Common.{◌≡◌, map, take}
use Rattle.def_ground.specs.CaseViews.{case_view}
use Rattle.def_ground.specs.Forms.{atom_case}
use Rattle.ground_walk.proofs.leaves.atom_cases.Given as goal

-- the cases so far
abbrev pub invariant-loop-row : goal.invariant-loop-row
invariant-loop-row l = map case_view l.cases.items ≡ map (atom_case l.base l.symbol) (take l.row l.rows)
