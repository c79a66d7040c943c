use Rattle.std.proofs.Common.{◌≡◌, ◌+◌, length}
use Rattle.ground_core.specs.Atoms.{ground_atoms}
use Rattle.ground_core.proofs.AtomFacts.{atoms_from}
use Rattle.ground_core.proofs.atom_counts.count_atoms.Given as goal

-- with the atoms of the symbols that are left they are all
abbrev pub invariant-loop-number : goal.invariant-loop-number
invariant-loop-number l = l.count + length (atoms_from l.symbols l.domains l.number)
    ≡ length (ground_atoms l.symbols l.domains)
