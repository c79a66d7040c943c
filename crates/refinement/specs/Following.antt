-- What following promises: it makes nothing known that the sentences do not fix.
use Rattle.std.specs.Prelude.{◌≡◌, ◌<◌, ◌≤◌, List, [], ◌++◌, Bool, true, false, Result, Ok, Err, ⊤}
use Rattle.std.specs.List.{AllByRecursion}
use Rattle.kb_logic.specs.declared.elements.Elem.{Elem}
use Rattle.kb_logic.specs.declared.vocabularies.Bound.{Bound}
use Rattle.kb_logic.specs.declared.vocabularies.Symbol.{Symbol}
use Rattle.kb_logic.specs.Trees.{FormulaTree}
use Rattle.kb_logic.specs.Structures.{choices}
use Rattle.kb_logic.specs.KnownAtoms.{KnownAtoms}
use Rattle.partial_structures.specs.Consistency.{IsConsistent, IsListed, KnowsMore}
use Rattle.bound_laws.specs.Closures.{Obeys}
use Rattle.quantifier_bounds.specs.Fits.{Fits}
use Rattle.quantifier_bounds.specs.Steps.{IsImpossible, IsSound, unknown_atoms}
use Rattle.quantifier_bounds.specs.declared.fault.BoundFault.{BoundFault}
use Rattle.quantifier_bounds.specs.declared.fault.BoundFault.TheVariants as fault

-- each of the sentences is obeyed
abbrev pub ObeysSentences : List FormulaTree → KnownAtoms → Type 0
ObeysSentences fs q = AllByRecursion (λ f. Obeys q true f []) fs

-- each of the sentences fits
abbrev pub SentencesFit : List Symbol → List (List Elem) → List FormulaTree → Type 0
SentencesFit s d fs = AllByRecursion (λ f. Fits s d f []) fs

-- under e the formula fits, and is obeyed where the sentences are
pub record IsPart (s : List Symbol) (d : List (List Elem)) (fs : List FormulaTree) (f : FormulaTree) (e : List Elem)
    : Type 0 where
  pub fits : Fits s d f e
  pub obeyed : (q : KnownAtoms) → q.domains ≡ d → ObeysSentences fs q → Obeys q true f e

-- so of each of its instances
abbrev pub AreParts : List Symbol → List (List Elem) → List FormulaTree → FormulaTree → List Bound → List Elem → Type 0
AreParts s d fs f bs e = AllByRecursion (λ a. IsPart s d fs f (e ++ a)) (choices d bs)

-- whatever knows as much obeys the formula under e
abbrev pub IsSettled : KnownAtoms → FormulaTree → List Elem → Type 0
IsSettled k f e = (q : KnownAtoms) → IsConsistent q → IsListed q → KnowsMore k q → Obeys q true f e

-- more is known, and no more than W fixes
pub record IsFollowing (old new : KnownAtoms) (W : KnownAtoms → Type 0) : Type 0 where
  pub more : KnowsMore old new
  pub sound : IsSound old new W
  pub fewer : unknown_atoms new ≤ unknown_atoms old

-- what W fixes was followed, or it is a contradiction
abbrev pub WasFollowed : {X : Type 0} → KnownAtoms → KnownAtoms → Result X BoundFault → (KnownAtoms → Type 0) → Type 0
WasFollowed old new (Ok x) W = IsFollowing old new W
WasFollowed old new (Err fault.Contradiction) W = IsImpossible old W
WasFollowed old new (Err fault.Memory) W = ⊤

-- no more than W fixes was made known: where nothing changed, P holds; and where something did, fewer atoms are unknown
pub record IsStepWithin (old new : KnownAtoms) (changed : Bool) (W P : KnownAtoms → Type 0) : Type 0 where
  pub more : KnowsMore old new
  pub sound : IsSound old new W
  pub same : changed ≡ false → new ≡ old
  pub holds : changed ≡ false → P new
  pub fewer : changed ≡ true → unknown_atoms new < unknown_atoms old

-- what P asks for was made known and followed within what W fixes, or it is a contradiction
abbrev pub NarrowsWithin : KnownAtoms → KnownAtoms → Result Bool BoundFault → (KnownAtoms → Type 0)
    → (KnownAtoms → Type 0) → Type 0
NarrowsWithin old new (Ok changed) W P = IsStepWithin old new changed W P
NarrowsWithin old new (Err fault.Contradiction) W P = IsImpossible old W
NarrowsWithin old new (Err fault.Memory) W P = ⊤
