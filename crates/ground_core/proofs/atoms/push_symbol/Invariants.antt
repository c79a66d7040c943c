use Rattle.std.proofs.Common.{◌≡◌, flat_map, ◌++◌}
use Rattle.ground_core.specs.Atoms.{atoms_at}
use Rattle.ground_core.proofs.atoms.push_symbol.Given as goal

abbrev pub invariant-loop-args : goal.invariant-loop-args
invariant-loop-args l = l.atoms.items ≡ l.initial.atoms.items ++ flat_map
    (atoms_at l.domains l.number l.symbol.value) l.yielded
