use Rattle.std.proofs.Common.{◌≡◌, All, take}
use Rattle.case_derivations.proofs.closing.has.Given as goal

abbrev pub invariant-loop-packed : goal.invariant-loop-packed
invariant-loop-packed l = All (λ m. m ≡ l.fn.lit → ⊥) (take l.packed-index l.clause)
