use Rattle.std.proofs.Common.{◌≡◌, map, take}
use Rattle.kb_logic.specs.KnownAtoms.{atoms_over}
use Rattle.partial_structures.specs.KnownAtoms.{value_at}
use Rattle.atom_numbers.proofs.unknown.all_truths.Given as goal

abbrev pub invariant-loop-number : goal.invariant-loop-number
invariant-loop-number l =
    l.truths.items ≡ map (value_at l.partial) (atoms_over (take l.number l.partial.symbols) l.partial.domains)
