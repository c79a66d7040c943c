use Rattle.std.proofs.Common.{◌≡◌, take}
use Rattle.partial_structures.proofs.extension.is_same_domain.Given as goal

abbrev pub invariant-loop-i : goal.invariant-loop-i
invariant-loop-i l = take l.i l.a ≡ take l.i l.b
