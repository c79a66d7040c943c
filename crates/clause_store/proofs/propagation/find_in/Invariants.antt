use Rattle.std.proofs.Common.{◌≡◌, ◌⊎◌, All, Some, false, take}
use Rattle.lit_core.specs.Literals.{value_in}
use Rattle.clause_store.proofs.propagation.find_in.Given as goal

abbrev pub invariant-loop-place : goal.invariant-loop-place
invariant-loop-place l = All (λ m. (m ≡ l.other) ⊎ (value_in l.assignment m ≡ Some false)) (take l.place l.lits)
