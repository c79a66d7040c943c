use Rattle.std.proofs.Common.{◌≡◌, take}
use Rattle.kb_logic.specs.Structures.{tuples_of}
use Rattle.kb_logic.proofs.tuples.all_tuples.Given as goal

abbrev pub invariant-loop-ty : goal.invariant-loop-ty
invariant-loop-ty l = l.tuples.items ≡ tuples_of l.domains (take l.ty-index l.types)
