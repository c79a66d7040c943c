use Rattle.std.proofs.Common.{◌≡◌, ◌⊎◌, false, Some, All, take}
use Rattle.lit_core.specs.Literals.{value_in}
use Rattle.search_engine.proofs.summing.are_others_false.Given as goal

-- those so far are false or the literal
abbrev pub invariant-loop-other : goal.invariant-loop-other
invariant-loop-other l = All (λ m. (m ≡ l.fn.lit) ⊎ (value_in l.fn.values m ≡ Some false))
    (take l.other-index l.fn.lits)
