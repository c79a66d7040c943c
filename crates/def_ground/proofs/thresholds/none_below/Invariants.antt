use Rattle.std.proofs.Common.{◌≡◌, ◌++◌, map, drop}
use Rattle.lit_core.specs.Literals.{negated}
use Rattle.def_ground.specs.Linear.{lits_below}
use Rattle.def_ground.proofs.thresholds.none_below.Given as goal

-- with those of the parts that are left come all
abbrev pub invariant-loop-part : goal.invariant-loop-part
invariant-loop-part l =
    l.lits ++ map negated (lits_below l.bound (drop l.part-index l.fn.parts))
    ≡ map negated (lits_below l.bound l.fn.parts)
