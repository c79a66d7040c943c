use Rattle.std.proofs.Common.{◌≡◌, ◌∷◌, [], map, take}
use Rattle.lit_core.specs.declared.literals.Lit.{Lit}
use Rattle.ground_core.specs.GateClauses.{with_sign}
use Rattle.ground_core.proofs.gate_clauses.short_clauses.Given as goal

abbrev pub invariant-loop-part : goal.invariant-loop-part
invariant-loop-part l = l.clauses ≡ map (λ (p : Lit). l.out ∷ with_sign l.gate.all p ∷ [])
    (take l.part-index l.gate.parts)
