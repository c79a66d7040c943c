-- Sets of literals.
use Rattle.std.specs.Prelude.{◌≡◌, ◌↔◌, ℕ, Bool, true, false, List, [], Contains}
use Rattle.lit_core.specs.declared.literals.Lit.{Lit}
use Rattle.search_engine.specs.declared.lit_sets.LitSet.{LitSet}

-- the variables of the literals of one sign
abbrev pub numbers_of : LitSet → Bool → List ℕ
numbers_of s true = s.positive.keys
numbers_of s false = s.negative.keys

-- the literal is one of the set
abbrev pub HasLit : LitSet → Lit → Type 0
HasLit s l = Contains (numbers_of s l.positive) l.var.0

-- it has no literals
pub record IsEmptySet (s : LitSet) : Type 0 where
  pub positive : s.positive.keys ≡ []
  pub negative : s.negative.keys ≡ []

-- it has these literals and no others
abbrev pub IsSetOf : List Lit → LitSet → Type 0
IsSetOf lits s = (l : Lit) → HasLit s l ↔ Contains lits l
