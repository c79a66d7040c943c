use Rattle.std.proofs.Common.{◌≡◌, ◌∷◌, [], map, take}
use Rattle.lit_core.specs.declared.literals.Lit.{Lit}
use Rattle.lit_core.specs.Literals.{negated}
use Rattle.def_ground.specs.Cases.{with_clauses}
use Rattle.definition_walk.proofs.atoms.push_none.Given as goal

-- the clauses of the literals so far
abbrev pub invariant-loop-lit : goal.invariant-loop-lit
invariant-loop-lit l =
    l.problem ≡ with_clauses l.fn.problem (map (λ (m : Lit). negated m ∷ []) (take l.lit-index l.lits))
