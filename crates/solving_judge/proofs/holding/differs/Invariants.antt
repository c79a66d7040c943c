use Rattle.std.proofs.Common.{◌≡◌, ◌≤◌, ℕ}
use Rattle.lit_core.specs.Literals.{valuation}
use Rattle.solving_judge.proofs.holding.differs.Given as goal

-- the atoms so far have the same values
abbrev pub invariant-loop-atom : goal.invariant-loop-atom
invariant-loop-atom l = (k : ℕ) → 1 ≤ k → k ≤ l.atom → valuation l.fn.values k ≡ valuation l.fn.other k
