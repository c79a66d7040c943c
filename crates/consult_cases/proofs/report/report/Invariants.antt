use Rattle.std.proofs.Common.{length}
use Rattle.consult_cases.proofs.Reports.{GoesOn}
use Rattle.consult_cases.proofs.report.report.Given as goal

abbrev pub invariant-loop-text : goal.invariant-loop-text
invariant-loop-text l = GoesOn l.fn.texts l.rest l.lines.items

abbrev pub decreases-loop-text : goal.decreases-loop-text
decreases-loop-text l = length l.rest
