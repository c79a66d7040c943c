use Rattle.std.proofs.Common.{◌≤◌, drop, length, vec_len, vec_capacity}
use Rattle.kb_logic.specs.declared.elements.ExtInt.{ExtInt}
use Rattle.kb_logic.specs.declared.syntax.AggKind.TheVariants as kind
use Rattle.term_bounds.proofs.ReasonFacts.{SoFar}
use Rattle.term_bounds.proofs.reasons.sum_literals.Given as goal

-- what was given for the parts so far, at most one literal for each, and the room for one of each part
abbrev pub invariant-loop-part : goal.invariant-loop-part
invariant-loop-part l = ((bound : ExtInt) → SoFar l.fn.assignment kind.Sum bound l.fn.parts
    (drop l.part-index l.fn.parts) l.fn.spare l.spare l.clause.items)
    × (vec_len l.clause ≤ l.part-index) × (length l.fn.parts ≤ vec_capacity l.clause)
