-- What `implied` is asked.
use Rattle.std.specs.Prelude.{◌≡◌, ◌⊎◌, ℕ, ◌<◌, Bool, true, Option, Some, None, List, length, All, Any, slice_index_or}
use Rattle.lit_core.specs.declared.literals.Lit.{Lit}
use Rattle.ground_core.specs.declared.parts.Part.{Part}
use Rattle.ground_core.specs.declared.parts.AggCon.{AggCon}
use Rattle.lit_core.specs.Truth.{IsFalsified, IsSatisfied, IsUnitAt}
use Rattle.ground_core.specs.Meaning.{SumHolds}
use Rattle.ground_core.specs.Intervals.{changed, contradicts, known_of, refuting, IsOpenAt}

-- the values that an assignment of the first variables gives
abbrev pub assigned : List (Option Bool) → ℕ → Option Bool
assigned xs n = slice_index_or xs n None

-- with one more literal true
abbrev pub under : (ℕ → Option Bool) → Option Lit → ℕ → Option Bool
under a None = a
under a (Some l) = changed a l.var.0 l.positive

-- the assignment is long enough to have every variable of the constraint
abbrev pub IsWithin : List (Option Bool) → AggCon → Type 0
IsWithin xs c = (c.out.var.0 < length xs) × All (λ (p : Part). p.lit.var.0 < length xs) c.parts

-- the constraint has the literal's variable
abbrev pub IsOfSum : Lit → AggCon → Type 0
IsOfSum l c = (c.out.var.0 ≡ l.var.0) ⊎ Any (λ (p : Part). p.lit.var.0 ≡ l.var.0) c.parts

-- the clause holds wherever the constraint does and is of its variables; it is false now or has one literal left, and
-- alone it contradicts the constraint
pub record Follows (values : List (Option Bool)) (c : AggCon) (cl : List Lit) : Type 0 where
  pub holds : (v : ℕ → Bool) → SumHolds v c → IsSatisfied v cl
  pub acts : IsFalsified values cl ⊎ ((l : Lit) × IsUnitAt values cl l)
  pub alone : contradicts (refuting cl) c ≡ true
  pub variables : All (λ l. IsOfSum l c) cl

-- the literal is unassigned, and contradicts the constraint if it is made true
pub record Decides (a : ℕ → Option Bool) (c : AggCon) (l : Lit) : Type 0 where
  pub unassigned : known_of a l ≡ None
  pub wrong : contradicts (changed a l.var.0 l.positive) c ≡ true

-- no value of an unassigned variable contradicts the constraint
abbrev pub AreOpen : (ℕ → Option Bool) → AggCon → Type 0
AreOpen a c = IsOpenAt a c c.out × All (λ (p : Part). IsOpenAt a c p.lit) c.parts
