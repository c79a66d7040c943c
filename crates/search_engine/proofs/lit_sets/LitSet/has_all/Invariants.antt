use Rattle.std.proofs.Common.{ℕ, ◌<◌, get_or}
use Rattle.lit_core.specs.declared.literals.Lit.{Lit}
use Rattle.search_engine.specs.LitSets.{HasLit}
use Rattle.search_engine.proofs.lit_sets.LitSet.has_all.Given as goal

-- the literals so far are in the set
abbrev pub invariant-loop-lit : goal.invariant-loop-lit
invariant-loop-lit l = (k : ℕ) (d : Lit) → k < l.lit-index → HasLit l.self (get_or l.lits k d)
