-- What holds after the backtrack to an analysis's level.
use Rattle.std.specs.Prelude.{◌≡◌, ℕ, Some, List, slice_get}
use Rattle.lit_core.specs.declared.literals.Lit.{Lit}
use Rattle.lit_core.specs.Truth.{IsUnitAt}
use Rattle.clause_store.specs.TrailState.{TrailState}
use Rattle.clause_store.specs.TrailLaws.{IsTrail, CutsAt}
use Rattle.conflict_analysis.specs.Analyses.{IsUnitBackAt}

-- once the trail is back at the level, the first literal is unassigned and the others are false
abbrev pub UnitAfterStepBack : Type 0
UnitAfterStepBack = (s t : TrailState) (level : ℕ) (c : List Lit) → IsTrail s → IsTrail t → IsUnitBackAt s level c
    → CutsAt level s t → (l : Lit) × (slice_get c 0 ≡ Some l) × IsUnitAt t.values c l
