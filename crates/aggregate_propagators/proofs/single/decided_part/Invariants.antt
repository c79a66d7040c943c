use Rattle.std.proofs.Common.{take, All}
use Rattle.ground_core.specs.declared.parts.Part.{Part}
use Rattle.ground_core.specs.Intervals.{IsOpenAt}
use Rattle.aggregate_propagators.specs.Implied.{assigned}
use Rattle.aggregate_propagators.specs.Thresholds.{constraint_of}
use Rattle.aggregate_propagators.proofs.single.decided_part.Given as goal

-- none so far is decided
abbrev pub invariant-loop-part : goal.invariant-loop-part
invariant-loop-part l =
    All (λ (p : Part). IsOpenAt (assigned l.fn.values) (constraint_of l.fn.end.of l.fn.parts) p.lit)
    (take l.part-index l.fn.parts)
