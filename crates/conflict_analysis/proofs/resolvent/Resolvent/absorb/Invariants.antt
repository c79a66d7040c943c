use Rattle.std.proofs.Common.{◌≡◌, take, Contains}
use Rattle.conflict_analysis.specs.Resolvents.{Gathers}
use Rattle.conflict_analysis.proofs.resolvent.Resolvent.absorb.Given as goal

abbrev pub invariant-loop-lit : goal.invariant-loop-lit
invariant-loop-lit l = Gathers l.store.trail.steps l.fn.self (Contains (take l.lit-index l.lits)) l.self
    × (l.self.hints.items ≡ l.fn.self.hints.items)
