-- What is in force of what a session holds, the models under it, and what all of them have in common.
use Rattle.std.specs.Prelude.{ℕ, ◌<◌, Bool, true, false, List, [], ◌∷◌, flat_map, length}
use Rattle.kb_logic.specs.declared.structures.Literal.{Literal}
use Rattle.kb_logic.specs.declared.structures.Structure.{Structure}
use Rattle.kb_logic.specs.Models.{GroundAtom, HoldsIn}
use Rattle.kb_logic.specs.KnownAtoms.{atoms_over}
use Rattle.kb_logic.specs.Bases.{Base, IsModelUnder}
use Rattle.kb_logic.specs.Lists.{IsSublist, without_item}

-- some of what a session holds in force, in its order
pub record InForce : Type 0 where
  pub choices : List Literal

-- m is a model of the knowledge base under it
abbrev pub IsModelOf : Base → InForce → Structure → Type 0
IsModelOf base p m = IsModelUnder base p.choices m

-- some structure is a model under it
abbrev pub HasModel : Base → InForce → Type 0
HasModel base p = (m : Structure) × IsModelOf base p m

-- no structure is one
abbrev pub HasNoModel : Base → InForce → Type 0
HasNoModel base p = (m : Structure) → IsModelOf base p m → ⊥

-- the literal is true in all models under it
abbrev pub Forces : Base → InForce → Literal → Type 0
Forces base p l = (m : Structure) → IsModelOf base p m → HoldsIn m l

-- the literal is false in some model under it
abbrev pub LeavesFalse : Base → InForce → Literal → Type 0
LeavesFalse base p l = (m : Structure) × IsModelOf base p m × (HoldsIn m l → ⊥)

-- the first is the second with some items left out
pub record IsSomeOf (q p : InForce) : Type 0 where
  pub choices : IsSublist q.choices p.choices

-- P holds of it with any single item left out
pub record WithoutEach (P : InForce → Type 0) (p : InForce) : Type 0 where
  pub choice : (k : ℕ) → k < length p.choices → P (record p { choices = without_item p.choices k })

-- the literal that affirms the atom, or denies it
abbrev pub literal_with : Bool → GroundAtom → Literal
literal_with positive a = record { positive = positive; symbol = a.symbol; args = a.args; value = a.value }

-- the literal that affirms the atom, and the one that denies it
abbrev pub both_literals : GroundAtom → List Literal
both_literals a = literal_with true a ∷ literal_with false a ∷ []

-- both literals of each atom, in the order of the atoms
abbrev pub literals_over : Base → List Literal
literals_over base = flat_map both_literals (atoms_over base.vocabulary.symbols base.known.domains)
