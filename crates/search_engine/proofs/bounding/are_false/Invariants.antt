use Rattle.std.proofs.Common.{◌≡◌, false, Some, All, take}
use Rattle.lit_core.specs.Literals.{value_in}
use Rattle.search_engine.proofs.bounding.are_false.Given as goal

-- those so far are false
abbrev pub invariant-loop-lit : goal.invariant-loop-lit
invariant-loop-lit l = All (λ m. value_in l.values m ≡ Some false) (take l.lit-index l.lits)
