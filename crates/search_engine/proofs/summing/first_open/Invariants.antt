use Rattle.std.proofs.Common.{◌≡◌, None, All, take}
use Rattle.lit_core.specs.Literals.{value_in}
use Rattle.search_engine.proofs.summing.first_open.Given as goal

-- those so far have values
abbrev pub invariant-loop-lit : goal.invariant-loop-lit
invariant-loop-lit l = All (λ m. value_in l.values m ≡ None → ⊥) (take l.lit-index l.lits)
