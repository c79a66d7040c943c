use Rattle.std.proofs.Common.{◌≡◌, ◌∷◌, not, map, take}
use Rattle.ground_core.specs.GateClauses.{with_sign}
use Rattle.ground_core.proofs.gate_clauses.long_clause.Given as goal

abbrev pub invariant-loop-part : goal.invariant-loop-part
invariant-loop-part l = l.clause ≡ with_sign l.gate.all l.gate.out ∷ map (with_sign (not l.gate.all))
    (take l.part-index l.gate.parts)
