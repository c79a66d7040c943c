use Rattle.std.proofs.Common.{◌≡◌, take}
use Rattle.partial_structures.proofs.extension.are_same_domains.Given as goal

abbrev pub invariant-loop-i : goal.invariant-loop-i
invariant-loop-i l = take l.i l.a ≡ take l.i l.b
