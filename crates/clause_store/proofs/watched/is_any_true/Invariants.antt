use Rattle.std.proofs.Common.{◌≢◌, All, Some, true, take}
use Rattle.lit_core.specs.Literals.{value_in}
use Rattle.clause_store.proofs.watched.is_any_true.Given as goal

abbrev pub invariant-loop-lit : goal.invariant-loop-lit
invariant-loop-lit l = All (λ m. value_in l.assignment m ≢ Some true) (take l.lit-index l.lits)
