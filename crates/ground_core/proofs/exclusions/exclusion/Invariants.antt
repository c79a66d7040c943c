use Rattle.std.proofs.Common.{◌≡◌, ◌∷◌}
use Rattle.lit_core.specs.Literals.{negated}
use Rattle.ground_core.specs.Growth.{falsified_by}
use Rattle.ground_core.proofs.exclusions.exclusion.Given as goal

abbrev pub invariant-loop-i : goal.invariant-loop-i
invariant-loop-i l = l.clause ≡ negated l.fn.out ∷ falsified_by l.values l.i
