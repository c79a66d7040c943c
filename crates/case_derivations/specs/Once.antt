-- Lists without what stands there twice.
use Rattle.std.specs.Prelude.{List, All, Contains}
use Rattle.lit_core.specs.declared.literals.Lit.{Lit}
use Rattle.lit_core.specs.Literals.{HasEachOnce}
use Rattle.derivation_log.specs.Steps.{HasNoOpposites}

-- the second list has the literals of the first, each once and none with its negation
pub record IsOnceOf (lits once : List Lit) : Type 0 where
  pub each : All (Contains once) lits
  pub only : All (Contains lits) once
  pub fine : HasNoOpposites once
  pub distinct : HasEachOnce once
