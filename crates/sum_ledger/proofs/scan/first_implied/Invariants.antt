use Rattle.std.proofs.Common.{All, take}
use Rattle.ground_core.specs.Intervals.{IsQuiet}
use Rattle.aggregate_propagators.specs.Implied.{assigned}
use Rattle.sum_ledger.proofs.scan.first_implied.Given as goal

-- those so far imply nothing
abbrev pub invariant-loop-place : goal.invariant-loop-place
invariant-loop-place l = All (IsQuiet (assigned l.fn.values)) (take l.place l.sums)
