-- The elements, rows and atoms that terms are known to be.
use Rattle.std.specs.Prelude.{◌≡◌, ℕ, List, map, Option, Some, None, Contains}
use Rattle.kb_logic.specs.declared.elements.Elem.{Elem}
use Rattle.kb_logic.specs.Trees.{TermTree, TermTrees}
use Rattle.kb_logic.specs.Structures.{tuples_of}
use Rattle.kb_logic.specs.Denotations.{Denotation, denotation_of}
use Rattle.kb_logic.specs.Models.{GroundAtom, IsAtomOver}
use Rattle.kb_logic.specs.KnownAtoms.{KnownAtoms}
use Rattle.bound_laws.specs.Closures.{IsNamed}

-- the element with this value, or there is none
abbrev pub IsElementOf : Denotation → Option Elem → Type 0
IsElementOf d None = (x : Elem) → d ≡ denotation_of x → ⊥
IsElementOf d (Some x) = d ≡ denotation_of x

-- the one of the elements that the value is known to be, or it is not known to be any
abbrev pub IsKnownElement : List Elem → Option Denotation → Option Elem → Type 0
IsKnownElement xs d None = (x : Elem) → Contains xs x → d ≡ Some (denotation_of x) → ⊥
IsKnownElement xs d (Some x) = Contains xs x × (d ≡ Some (denotation_of x))

-- the tuple over the types that the values are known to be, or they are not known to be any
abbrev pub IsKnownRow : List (List Elem) → List ℕ → Option (List Denotation) → Option (List Elem) → Type 0
IsKnownRow domains types vs None = (r : List Elem) → Contains (tuples_of domains types) r
    → vs ≡ Some (map denotation_of r) → ⊥
IsKnownRow domains types vs (Some r) = Contains (tuples_of domains types) r × (vs ≡ Some (map denotation_of r))

-- the atom over the domains that is named, or none is
abbrev pub IsNamedAtom : KnownAtoms → ℕ → TermTrees → Option TermTree → List Elem → Option GroundAtom → Type 0
IsNamedAtom k s ts t e None = (a : GroundAtom) → IsAtomOver k.symbols k.domains a → IsNamed k s ts t e a → ⊥
IsNamedAtom k s ts t e (Some a) = IsAtomOver k.symbols k.domains a × IsNamed k s ts t e a
