use Rattle.std.proofs.Common.{◌≡◌, All, Some, false, take}
use Rattle.lit_core.specs.Literals.{value_in}
use Rattle.clause_store.proofs.attachment.open_literal.Given as goal

abbrev pub invariant-loop-lit : goal.invariant-loop-lit
invariant-loop-lit l = All (λ m. value_in l.assignment m ≡ Some false) (take l.lit-index l.lits)
