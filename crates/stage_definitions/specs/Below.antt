-- Types that are below one another by `isa`.
use Rattle.std.specs.Prelude.{ℕ, ◌≡◌, ◌<◌, ◌≤◌, ◌==◌, ◌||◌, ◌⊎◌, Bool, false, IsTrue, List, Option, None, Some, length}
use Rattle.std.specs.Prelude.{map, slice_get, zero, suc}
use Rattle.kb_logic.specs.declared.vocabularies.Parent.{Parent}
use Rattle.kb_logic.specs.declared.vocabularies.Parent.TheVariants.{Root, Int, Nat, Of}
use Rattle.kb_logic.specs.declared.vocabularies.TypeDecl.{TypeDecl}
use Rattle.stage_definitions.specs.NamesStage.{stepped, begins_cycle}

-- for each type the number of its parent, where that is a type of the vocabulary
abbrev pub Parents : Type 0
Parents = List (Option ℕ)

-- the type that a type stands under, unless it stands alone or under `int` or `nat`
abbrev pub type_above : Parent → Option ℕ
type_above Root = None
type_above Int = None
type_above Nat = None
type_above (Of t) = Some t

-- the parents of a vocabulary's types
abbrev pub type_parents : List TypeDecl → Parents
type_parents = map (λ (d : TypeDecl). type_above d.parent)

-- a type is below itself, and below each type that its parent is below
pub data Below (parents : Parents) : ℕ → ℕ → Type 0 where
  itself : (t : ℕ) → Below parents t t
  under : (t p u : ℕ) → slice_get parents t ≡ Some (Some p) → Below parents p u → Below parents t u

-- some steps up from the type t lead back to it
abbrev pub ComesBack : Parents → ℕ → Type 0
ComesBack parents t = (p : ℕ) × (slice_get parents t ≡ Some (Some p)) × Below parents p t

-- whether at most so many steps up from the type t lead to the type u
abbrev pub reaches : ℕ → Parents → ℕ → ℕ → Bool
reaches zero parents t u = t == u
reaches (suc n) parents t u = (t == u) || stepped (slice_get parents t) (λ p. reaches n parents p u)

-- whether the type t is below the type u, by as many steps up as there are types
abbrev pub is_below : Parents → ℕ → ℕ → Bool
is_below parents t u = reaches (length parents) parents t u

-- no type is the first one of a cycle
abbrev pub HasNoCycle : Parents → Type 0
HasNoCycle parents = (t : ℕ) → t < length parents → begins_cycle parents t ≡ false

-- each type has a rank above its parent's, and none has a rank above the number of types
pub record IsRank (parents : Parents) (rank : ℕ → ℕ) : Type 0 where
  pub falls : (t p : ℕ) → slice_get parents t ≡ Some (Some p) → rank p < rank t
  pub low : (t : ℕ) → rank t ≤ length parents

-- the walk up decides what is below; below is an order, in which of two types above one type one is below the other
pub record IsForest (parents : Parents) : Type 0 where
  pub decided : (t u : ℕ) → Below parents t u → IsTrue (is_below parents t u)
  pub right : (t u : ℕ) → IsTrue (is_below parents t u) → Below parents t u
  pub reflexive : (t : ℕ) → IsTrue (is_below parents t t)
  pub transitive : (t u v : ℕ) → IsTrue (is_below parents t u) → IsTrue (is_below parents u v)
      → IsTrue (is_below parents t v)
  pub antisymmetric : (t u : ℕ) → IsTrue (is_below parents t u) → IsTrue (is_below parents u t) → t ≡ u
  pub one_way_up : (t u v : ℕ) → IsTrue (is_below parents t u) → IsTrue (is_below parents t v)
      → IsTrue (is_below parents u v) ⊎ IsTrue (is_below parents v u)
