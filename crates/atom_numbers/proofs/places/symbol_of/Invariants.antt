use Rattle.std.proofs.Common.{◌+◌, ◌<◌, length}
use Rattle.atom_numbers.specs.Numbers.{first_of}
use Rattle.atom_numbers.proofs.places.symbol_of.Given as goal

abbrev pub invariant-loop-number : goal.invariant-loop-number
invariant-loop-number l = (l.number < length l.symbols) × (l.lit.var.0 < first_of l.domains l.symbols (l.number + 1))

abbrev pub decreases-loop-number : goal.decreases-loop-number
decreases-loop-number l = l.number
