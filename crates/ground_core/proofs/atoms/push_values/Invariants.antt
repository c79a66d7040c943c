use Rattle.std.proofs.Common.{◌≡◌, Some, map, take, ◌++◌}
use Rattle.ground_core.specs.Atoms.{atom_of}
use Rattle.ground_core.proofs.atoms.push_values.Given as goal

abbrev pub invariant-loop-value : goal.invariant-loop-value
invariant-loop-value l = l.atoms.items ≡ l.initial.atoms.items ++ map (λ x. atom_of l.number l.fn.args (Some x))
    (take l.value-index l.others)
