use Rattle.std.proofs.Common.{◌≡◌, ◌↔◌, ◌≤◌, All, [], length, take}
use Rattle.ground_core.specs.declared.parts.Part.{Part}
use Rattle.ground_core.specs.Intervals.{IsOpenAt}
use Rattle.aggregate_propagators.specs.Implied.{assigned, Follows}
use Rattle.aggregate_propagators.specs.Looking.{movers}
use Rattle.aggregate_propagators.specs.Thresholds.{amount_of, constraint_of}
use Rattle.aggregate_propagators.proofs.together.each_decided.Given as goal

-- each clause follows, there is one where a part so far is decided, and so many so far move the end
abbrev pub invariant-loop-part : goal.invariant-loop-part
invariant-loop-part l =
    All (Follows l.fn.values (constraint_of l.fn.end.of l.fn.parts)) l.clauses
    × ((l.clauses ≡ []) ↔ All
    (λ (p : Part). IsOpenAt (assigned l.fn.values) (constraint_of l.fn.end.of l.fn.parts) p.lit)
    (take l.part-index l.fn.parts)) × (l.count ≡ length
    (movers (assigned l.fn.values) l.fn.end.high l.fn.end.of.kind (amount_of l.fn.end.of.least)
    (take l.part-index l.fn.parts))) × (l.count ≤ l.part-index)
