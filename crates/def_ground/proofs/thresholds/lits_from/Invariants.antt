use Rattle.std.proofs.Common.{◌≡◌, ◌++◌, drop}
use Rattle.def_ground.specs.Linear.{lits_from}
use Rattle.def_ground.proofs.thresholds.lits_from.Given as goal

-- with those of the parts that are left come all
abbrev pub invariant-loop-part : goal.invariant-loop-part
invariant-loop-part l =
    l.lits ++ lits_from l.bound (drop l.part-index l.fn.parts) ≡ lits_from l.bound l.fn.parts
