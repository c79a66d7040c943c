-- What answers to a session's questions say: of its models, of what they have in common, and of why there are none.
use Rattle.std.specs.Prelude.{◌≡◌, ◌<◌, ◌≤◌, ℕ, Bool, true, false, List, [], length, slice_get, Some, Contains, ◌⊎◌}
use Rattle.std.specs.List.{AllByRecursion}
use Rattle.kb_logic.specs.declared.elements.Elem.{Elem}
use Rattle.kb_logic.specs.declared.elements.ExtInt.{ExtInt}
use Rattle.kb_logic.specs.declared.structures.Literal.{Literal}
use Rattle.kb_logic.specs.declared.structures.Structure.{Structure}
use Rattle.kb_logic.specs.Structures.{IsDistinct}
use Rattle.kb_logic.specs.Denotations.{denotation_of_bound, lower_value}
use Rattle.kb_logic.specs.Meaning.{value_of}
use Rattle.kb_logic.specs.Models.{GroundAtom, atom_of}
use Rattle.kb_logic.specs.KnownAtoms.{KnownAtoms}
use Rattle.kb_logic.specs.Lists.{IsSublist}
use Rattle.kb_logic.specs.Bases.{Base, NamedTerm}
use Rattle.kb_logic.specs.InForce.{InForce, IsModelOf, HasModel, HasNoModel, Forces, LeavesFalse, IsSomeOf, WithoutEach}
use Rattle.kb_logic.specs.InForce.{literals_over}

-- every model is one of these; or there are n of these, and another model
abbrev pub EndsAt : Base → InForce → ℕ → List Structure → Bool → Type 0
EndsAt base p n ms true = (m : Structure) → IsModelOf base p m → Contains ms m
EndsAt base p n ms false = (length ms ≡ n) × ((m : Structure) × IsModelOf base p m × (Contains ms m → ⊥))

-- at least one model and at most n of them, each once, and whether they are all. Equal structures are equal values
pub record AreModels (base : Base) (p : InForce) (n : ℕ) (ms : List Structure) (all : Bool) : Type 0 where
  pub some : 0 < length ms
  pub most : length ms ≤ n
  pub models : AllByRecursion (IsModelOf base p) ms
  pub apart : IsDistinct ms
  pub ends : EndsAt base p n ms all

-- the literal denies a value of a function that has another value in all models
abbrev pub IsImplied : Base → InForce → Literal → Type 0
IsImplied base p l = (x y : Elem) × (l.positive ≡ false) × (l.value ≡ Some y)
    × Forces base p (record l { positive = true; value = Some x })

-- the data make the atom known
abbrev pub IsKnownIn : KnownAtoms → GroundAtom → Type 0
IsKnownIn k a = Contains k.true_atoms a ⊎ Contains k.false_atoms a

-- what is not shown of the literals that are true in all models: those of known atoms, the choices, and what is implied
-- by another value
abbrev pub IsLeftOut : Base → InForce → Literal → Type 0
IsLeftOut base p l = IsKnownIn base.known (atom_of l) ⊎ (Contains p.choices l ⊎ IsImplied base p l)

-- exactly the literals that are true in all models, in their order, but for those that are left out; and there is a
-- model
pub record AreShown (base : Base) (p : InForce) (ls : List Literal) : Type 0 where
  pub some : HasModel base p
  pub order : IsSublist ls (literals_over base)
  pub forced : AllByRecursion (Forces base p) ls
  pub kept : AllByRecursion (λ l. IsLeftOut base p l → ⊥) ls
  pub others : AllByRecursion (λ l. Contains ls l ⊎ (IsLeftOut base p l ⊎ LeavesFalse base p l)) (literals_over base)

-- the term block has the value in the model, and in no model a lower one
pub record IsLeast (base : Base) (p : InForce) (t : ℕ) (v : ExtInt) (m : Structure) : Type 0 where
  pub term : NamedTerm
  pub named : slice_get base.terms t ≡ Some term
  pub model : IsModelOf base p m
  pub attained : value_of m term.term [] ≡ denotation_of_bound v
  pub least : (o : Structure) → IsModelOf base p o
      → lower_value (value_of o term.term []) (denotation_of_bound v) ≡ false

-- some of what is in force makes the literal true in all models, of which there are some, and nothing of it can be
-- spared
pub record IsSupport (base : Base) (p : InForce) (l : Literal) (q : InForce) : Type 0 where
  pub some : HasModel base p
  pub among : IsSomeOf q p
  pub forces : Forces base q l
  pub needed : WithoutEach (λ r. LeavesFalse base r l) q

-- some of what is in force admits no model, and nothing of it can be spared
pub record IsConflict (base : Base) (p q : InForce) : Type 0 where
  pub among : IsSomeOf q p
  pub none : HasNoModel base q
  pub needed : WithoutEach (HasModel base) q
