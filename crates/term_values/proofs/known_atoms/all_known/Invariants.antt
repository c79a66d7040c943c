use Rattle.std.proofs.Common.{◌≡◌, map, take}
use Rattle.kb_logic.specs.KnownAtoms.{atoms_over}
use Rattle.partial_structures.specs.KnownAtoms.{value_at}
use Rattle.term_values.specs.KnownBases.{known_truth}
use Rattle.term_values.proofs.known_atoms.all_known.Given as goal

abbrev pub invariant-loop-number : goal.invariant-loop-number
invariant-loop-number l =
    l.known.items ≡ map (λ a. known_truth (value_at l.partial a))
    (atoms_over (take l.number l.partial.symbols) l.partial.domains)
