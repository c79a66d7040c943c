use Rattle.std.proofs.Common.{take}
use Rattle.search_engine.specs.LitSets.{IsSetOf}
use Rattle.search_engine.proofs.lit_sets.LitSet.of.Given as goal

-- the literals so far
abbrev pub invariant-loop-lit : goal.invariant-loop-lit
invariant-loop-lit l = IsSetOf (take l.lit-index l.lits) l.set
