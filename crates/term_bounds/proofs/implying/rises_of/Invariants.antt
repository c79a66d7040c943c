use Rattle.std.proofs.Common.{All, Any}
use Rattle.lit_core.specs.declared.literals.Lit.{Lit}
use Rattle.term_bounds.specs.Amounts.{amount_of}
use Rattle.term_bounds.specs.Implying.{IsRaisedBy}
use Rattle.term_bounds.proofs.implying.rises_of.Given as goal

-- those that were found raise the sum by so much
abbrev pub invariant-loop-part : goal.invariant-loop-part
invariant-loop-part l = All (λ (x : Lit). Any (IsRaisedBy l.fn.assignment l.fn.line.kind (amount_of l.fn.line.bound)
    l.fn.low x) l.fn.parts) l.lits.items
