use Rattle.std.proofs.Common.{◌≡◌, drop, flat_map, ◌++◌}
use Rattle.std.specs.List.{enumerate_from}
use Rattle.ground_core.specs.Atoms.{atoms_of_symbol, ground_atoms}
use Rattle.ground_core.proofs.atoms.all_atoms.Given as goal

-- with the atoms of the symbols that are left, all atoms
abbrev pub invariant-loop-number : goal.invariant-loop-number
invariant-loop-number l = l.atoms.items ++ flat_map (λ s. atoms_of_symbol l.domains s.0 s.1)
    (enumerate_from l.number (drop l.number l.symbols)) ≡ ground_atoms l.symbols l.domains
