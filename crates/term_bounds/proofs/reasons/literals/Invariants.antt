use Rattle.std.proofs.Common.{drop}
use Rattle.term_bounds.specs.Amounts.{amount_of}
use Rattle.term_bounds.proofs.ReasonFacts.{SoFar}
use Rattle.term_bounds.proofs.reasons.literals.Given as goal

-- what was given for the parts so far
abbrev pub invariant-loop-part : goal.invariant-loop-part
invariant-loop-part l = SoFar l.fn.assignment l.fn.line.kind (amount_of l.fn.line.bound) l.fn.parts
    (drop l.part-index l.fn.parts) l.fn.spare l.spare l.clause.items
