use Rattle.std.proofs.Common.{◌≡◌, ◌⊎◌, take, All, Contains}
use Rattle.lit_core.specs.declared.literals.Lit.{Lit}
use Rattle.conflict_analysis.specs.Analyses.{IsFalseSince, IsFalseUpTo}
use Rattle.search_engine.proofs.levels.conflict_level.Given as goal

-- the level is that of the literals so far
abbrev pub invariant-loop-lit : goal.invariant-loop-lit
invariant-loop-lit l = record {
  upto : All (IsFalseUpTo l.store.trail l.level) (take l.lit-index l.lits);
  here : (l.level ≡ 0) ⊎ ((m : Lit) × Contains l.lits m × IsFalseSince l.store.trail l.level m);
}
