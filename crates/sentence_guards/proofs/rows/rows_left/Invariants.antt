use Rattle.std.proofs.Common.{◌≡◌, ℕ, ◌+◌, ◌<◌, false, Some}
use Rattle.std.specs.List.{Contains}
use Rattle.term_values.specs.GroundBases.{first_var, known_of}
use Rattle.sentence_guards.proofs.rows.rows_left.Given as goal

-- so far each index that is none of the rows is known to be false
abbrev pub invariant-loop-index : goal.invariant-loop-index
invariant-loop-index l =
    (i : ℕ) → i < l.index → (Contains l.rows.items i → ⊥) → known_of l.base (first_var l.base l.symbol + i) ≡ Some false
