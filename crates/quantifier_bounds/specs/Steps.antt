-- What a step of narrowing promises.
use Rattle.std.specs.Prelude.{◌≡◌, ℕ, ◌<◌, length, filter, Bool, true, false, Result, Ok, Err, ⊤}
use Rattle.kb_logic.specs.KnownAtoms.{KnownAtoms, atoms_over}
use Rattle.partial_structures.specs.KnownAtoms.{value_at}
use Rattle.partial_structures.specs.Consistency.{IsConsistent, IsListed, KnowsMore}
use Rattle.partial_structures.specs.declared.truths.Truth.{Truth}
use Rattle.partial_structures.specs.declared.truths.Truth.TheVariants as truth
use Rattle.quantifier_bounds.specs.declared.fault.BoundFault.{BoundFault}
use Rattle.quantifier_bounds.specs.declared.fault.BoundFault.TheVariants as fault

abbrev pub is_unknown : Truth → Bool
is_unknown truth.Yes = false
is_unknown truth.No = false
is_unknown truth.Unknown = true

-- how many atoms are unknown
abbrev pub unknown_atoms : KnownAtoms → ℕ
unknown_atoms k = length (filter (λ a. is_unknown (value_at k a)) (atoms_over k.symbols k.domains))

-- whatever knows the old and has P knows the new
abbrev pub IsSound : KnownAtoms → KnownAtoms → (KnownAtoms → Type 0) → Type 0
IsSound old new P = (q : KnownAtoms) → IsConsistent q → IsListed q → KnowsMore old q → P q → KnowsMore new q

-- nothing that knows the old has P
abbrev pub IsImpossible : KnownAtoms → (KnownAtoms → Type 0) → Type 0
IsImpossible old P = (q : KnownAtoms) → IsConsistent q → IsListed q → KnowsMore old q → P q → ⊥

-- what P asks for was made known: where nothing changed, P holds; and where something did, fewer atoms are unknown
pub record IsStep (old new : KnownAtoms) (changed : Bool) (P : KnownAtoms → Type 0) : Type 0 where
  pub more : KnowsMore old new
  pub sound : IsSound old new P
  pub same : changed ≡ false → new ≡ old
  pub holds : changed ≡ false → P new
  pub fewer : changed ≡ true → unknown_atoms new < unknown_atoms old

-- what P asks for was made known, or it is a contradiction
abbrev pub Narrows : KnownAtoms → KnownAtoms → Result Bool BoundFault → (KnownAtoms → Type 0) → Type 0
Narrows old new (Ok changed) P = IsStep old new changed P
Narrows old new (Err fault.Contradiction) P = IsImpossible old P
Narrows old new (Err fault.Memory) P = ⊤

-- nothing changes where it holds, else it is a contradiction
abbrev pub IsConstant : Bool → Result Bool BoundFault → Type 0
IsConstant holds (Ok changed) = (changed ≡ false) × (holds ≡ true)
IsConstant holds (Err fault.Contradiction) = holds ≡ false
IsConstant holds (Err fault.Memory) = ⊥
