use Rattle.std.proofs.Common.{◌<◌, take}
use Rattle.std.specs.List.{AllByRecursion}
use Rattle.ground_core.specs.declared.parts.Part.{Part}
use Rattle.def_ground.proofs.linear.place_of.Given as goal

-- the variables so far come before this one
abbrev pub invariant-loop-place : goal.invariant-loop-place
invariant-loop-place l = AllByRecursion (λ (p : Part). p.lit.var.0 < l.var) (take l.place l.parts)
