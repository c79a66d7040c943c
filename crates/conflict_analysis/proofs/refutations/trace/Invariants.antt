use Rattle.conflict_analysis.specs.Tracing.{IsTracing}
use Rattle.conflict_analysis.proofs.refutations.trace.Given as goal

abbrev pub invariant-loop-lits : goal.invariant-loop-lits
invariant-loop-lits l = IsTracing l.store l.end l.resolvent l.lits.items

abbrev pub decreases-loop-lits : goal.decreases-loop-lits
decreases-loop-lits l = l.resolvent.top
