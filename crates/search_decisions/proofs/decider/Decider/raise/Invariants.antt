use Rattle.std.proofs.Common.{◌≡◌}
use Rattle.search_decisions.proofs.decider.Decider.raise.Given as goal

abbrev pub invariant-loop-lit : goal.invariant-loop-lit
invariant-loop-lit l = l.self.scores ≡ l.fn.self.scores
