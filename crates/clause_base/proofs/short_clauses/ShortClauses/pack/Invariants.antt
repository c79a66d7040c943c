use Rattle.std.proofs.Common.{◌≡◌, ◌-◌, length}
use Rattle.clause_base.specs.ShortFields.{StaysPacked}
use Rattle.clause_base.proofs.short_clauses.ShortClauses.pack.Given as goal

abbrev pub invariant-loop-self : goal.invariant-loop-self
invariant-loop-self l = StaysPacked l.held.clauses l.fn.self l.self × (length l.self.lists ≡ length l.fn.self.lists)

abbrev pub decreases-loop-self : goal.decreases-loop-self
decreases-loop-self l = l.plan.end - l.self.packed
