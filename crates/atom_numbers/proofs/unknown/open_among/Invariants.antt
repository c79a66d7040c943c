use Rattle.std.proofs.Common.{◌≡◌, take}
use Rattle.atom_numbers.specs.Unknown.{open_from}
use Rattle.atom_numbers.proofs.unknown.open_among.Given as goal

abbrev pub invariant-loop-k : goal.invariant-loop-k
invariant-loop-k l = l.lits.items ≡ open_from 1 (take l.k l.truths)
