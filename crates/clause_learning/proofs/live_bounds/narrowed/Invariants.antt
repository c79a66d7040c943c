use Rattle.std.proofs.Common.{All, Contains, take}
use Rattle.lit_core.specs.declared.literals.Lit.{Lit}
use Rattle.ground_core.specs.declared.parts.TermBound.{TermBound}
use Rattle.search_engine.specs.LitSets.{HasLit}
use Rattle.clause_learning.proofs.live_bounds.narrowed.Given as goal

-- the core, and the outputs so far
abbrev pub invariant-loop-bound : goal.invariant-loop-bound
invariant-loop-bound l = ((m : Lit) → Contains l.core m → HasLit l.blamed m)
    × All (λ (b : TermBound). HasLit l.blamed b.out) (take l.bound-index l.live)
