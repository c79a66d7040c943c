use Rattle.std.proofs.Common.{length}
use Rattle.std.specs.String.{string_bytes}
use Rattle.reading_cases.proofs.Printed.{GoesOn}
use Rattle.reading_cases.proofs.printing.printed.Given as goal

abbrev pub invariant-loop-len : goal.invariant-loop-len
invariant-loop-len l = GoesOn l.fn.cases l.rest (string_bytes l.lines)

abbrev pub decreases-loop-len : goal.decreases-loop-len
decreases-loop-len l = length l.rest
