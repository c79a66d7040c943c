use Rattle.std.proofs.Common.{take}
use Rattle.search_decisions.specs.Scores.{Raises}
use Rattle.search_decisions.proofs.scores.Scores.raise.Given as goal

-- the scores of the variables so far are raised
abbrev pub invariant-loop-lit : goal.invariant-loop-lit
invariant-loop-lit l = Raises (take l.lit-index l.lits) l.fn.self.scores.items l.self.scores.items
