use Rattle.conflict_analysis.specs.Tracing.{IsCurrent}
use Rattle.conflict_analysis.proofs.analysis.analyse.Given as goal

abbrev pub invariant-loop-resolvent : goal.invariant-loop-resolvent
invariant-loop-resolvent l = IsCurrent l.store l.resolvent

abbrev pub decreases-loop-resolvent : goal.decreases-loop-resolvent
decreases-loop-resolvent l = l.resolvent.top
