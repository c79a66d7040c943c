use Rattle.std.proofs.Common.{◌≡◌, ◌∷◌, [], map, take}
use Rattle.lit_core.specs.declared.literals.Lit.{Lit}
use Rattle.lit_core.specs.Literals.{negated}
use Rattle.def_ground.specs.Cases.{with_clauses}
use Rattle.ground_walk.proofs.exactly_one.push_pairs_with.Given as goal

-- the clauses with the others so far
abbrev pub invariant-loop-other : goal.invariant-loop-other
invariant-loop-other l =
    l.problem
    ≡ with_clauses l.fn.problem (map (λ (m : Lit). negated l.lit ∷ negated m ∷ []) (take l.other-index l.others))
