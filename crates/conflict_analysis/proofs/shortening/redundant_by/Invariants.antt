use Rattle.std.proofs.Common.{◌≡◌, ◌⊎◌, ℕ, Some, Contains, slice_get, take}
use Rattle.lit_core.specs.declared.literals.Lit.{Lit}
use Rattle.lit_core.specs.Literals.{negated}
use Rattle.clause_store.specs.declared.trails.Step.{Step}
use Rattle.conflict_analysis.specs.Resolvents.{IsMadeAt}
use Rattle.conflict_analysis.proofs.shortening.redundant_by.Given as goal

-- the literals so far became false at the places, or are what follows
abbrev pub invariant-loop-lit : goal.invariant-loop-lit
invariant-loop-lit l = (t : Step) → slice_get l.store.trail.steps l.place ≡ Some t → (m : Lit)
    → Contains (take l.lit-index l.lits) m → (m ≡ t.lit) ⊎ ((k : ℕ) × Contains l.lower k
    × IsMadeAt l.store.trail.steps k (negated m))
