use Rattle.std.proofs.Common.{◌≡◌, ℕ, ◌<◌, Some, slice_get}
use Rattle.std.specs.List.{Contains}
use Rattle.partial_structures.specs.declared.truths.Truth.{Truth}
use Rattle.partial_structures.specs.declared.truths.Truth.TheVariants.{No}
use Rattle.known_guards.proofs.rows.others.Given as goal

-- so far each that is none of the rows is false
abbrev pub invariant-loop-index : goal.invariant-loop-index
invariant-loop-index l =
    (i : ℕ) → i < l.index → (Contains l.rows.items i → ⊥) → (t : Truth) → slice_get l.truths i ≡ Some t → t ≡ No
