use Rattle.std.proofs.Common.{◌≡◌, ◌++◌, drop}
use Rattle.aggregate_propagators.specs.Implied.{assigned}
use Rattle.aggregate_propagators.specs.Looking.{movers}
use Rattle.aggregate_propagators.specs.Thresholds.{amount_of}
use Rattle.aggregate_propagators.proofs.movers.movers_among.Given as goal

-- what is found and what is to come are the whole
abbrev pub invariant-loop-part : goal.invariant-loop-part
invariant-loop-part l = l.found.items
    ++ movers (assigned l.fn.values) l.fn.end.high l.fn.end.of.kind (amount_of l.fn.end.of.least)
    (drop l.part-index l.fn.parts)
    ≡ movers (assigned l.fn.values) l.fn.end.high l.fn.end.of.kind (amount_of l.fn.end.of.least) l.fn.parts
