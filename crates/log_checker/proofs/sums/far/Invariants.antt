use Rattle.std.proofs.Common.{◌≡◌, drop}
use Rattle.log_checker.specs.Amounts.{first}
use Rattle.log_checker.specs.Extremes.{far}
use Rattle.log_checker.proofs.sums.far.Given as goal

abbrev pub invariant-loop-part : goal.invariant-loop-part
invariant-loop-part l = far l.fn.greatest l.fn.kind l.fn.set l.found (drop l.part-index l.parts)
    ≡ far l.fn.greatest l.fn.kind l.fn.set (first l.fn.kind) l.parts
