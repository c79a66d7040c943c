use Rattle.std.proofs.Common.{◌≡◌, take}
use Rattle.kept_problem.proofs.kept.copied_gates.Given as goal

-- the ones so far are copied
abbrev pub invariant-loop-gate : goal.invariant-loop-gate
invariant-loop-gate l = l.copies.items ≡ take l.gate-index l.gates
