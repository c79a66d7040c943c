-- Sets of literals.
use Rattle.std.specs.Prelude.{◌≡◌, ℕ, Bool, true, false, List, slice_index_or, Contains, if◌then◌else◌}
use Rattle.lit_core.specs.declared.literals.Lit.{Lit}
use Rattle.log_checker.specs.declared.literal_sets.LiteralSet.{LiteralSet}

-- the value at the place, and the others as they were
abbrev pub IsSetAt : List Bool → ℕ → Bool → List Bool → Type 0
IsSetAt old k b new = (slice_index_or new k false ≡ b)
    × ((i : ℕ) → (i ≡ k → ⊥) → slice_index_or new i false ≡ slice_index_or old i false)

abbrev pub has : LiteralSet → Lit → Bool
has s l =
    if l.positive then slice_index_or s.positive.items l.var.0 false else slice_index_or s.negative.items l.var.0 false

-- the literal is in it or not, and the others are as they were
abbrev pub Turns : LiteralSet → Lit → Bool → LiteralSet → Type 0
Turns old l b new = (has new l ≡ b) × ((m : Lit) → (m ≡ l → ⊥) → has new m ≡ has old m)

-- none is in the set but these
abbrev pub OnlyIn : LiteralSet → List Lit → Type 0
OnlyIn s ls = (l : Lit) → has s l ≡ true → Contains ls l

-- just these are in the set
pub record IsMarked (s : LiteralSet) (ls : List Lit) : Type 0 where
  pub only : OnlyIn s ls
  pub each : (l : Lit) → Contains ls l → has s l ≡ true
