-- Scores of variables, and lists of those that may be decided.
use Rattle.std.specs.Prelude.{◌≡◌, ℕ, ◌+◌, ◌-◌, ◌^◌, ◌<◌, ◌≤◌, min, Bool, Option, None, IsSome, List, [], length, map}
use Rattle.std.specs.Prelude.{slice_index_or, All, Any, Contains, ◌⊎◌}
use Rattle.lit_core.specs.declared.literals.Lit.{Lit}
use Rattle.ground_core.specs.Solving.{counted}
use Rattle.search_decisions.specs.declared.scores.Scores.{Scores}

-- how many conflicts had the variable of this number in their clause
abbrev pub score_of : List ℕ → ℕ → ℕ
score_of scores v = slice_index_or scores v 0

-- the variable is unassigned, one of those from a number on and below another
abbrev pub IsOpenBetween : List (Option Bool) → ℕ → ℕ → ℕ → Type 0
IsOpenBetween values from end v = (from ≤ v) × (v < end) × (slice_index_or values v None ≡ None)

-- the variables from one number on and below another have values
abbrev pub HaveValues : List (Option Bool) → ℕ → ℕ → Type 0
HaveValues values from end = (k : ℕ) → from ≤ k → k < end → IsSome (slice_index_or values k None)

-- all unassigned variables between these numbers, in their order, and their scores
pub record AreListed (scores : List ℕ) (values : List (Option Bool)) (from end : ℕ)
    (vars listed : List ℕ) : Type 0 where
  pub scored : listed ≡ map (score_of scores) vars
  pub each : All (IsOpenBetween values from end) vars
  pub all : (v : ℕ) → IsOpenBetween values from end v → Contains vars v
  pub rising : (i j : ℕ) → i < j → j < length vars → slice_index_or vars i 0 < slice_index_or vars j 0

-- a conflict had a clause of these literals
pub record Raises (lits : List Lit) (old new : List ℕ) : Type 0 where
  pub room : length new ≡ length old
  pub rises : (v : ℕ) → min (score_of old v) (2 ^ 64 - 1) ≤ score_of new v
  pub more : (v : ℕ) → v < length old → Any (λ l. l.var.0 ≡ v) lits → counted (score_of old v + 1) ≤ score_of new v
  pub others : (v : ℕ) → (Any (λ l. l.var.0 ≡ v) lits → ⊥) → score_of new v ≡ score_of old v

-- listed are the unassigned ones of the first variables, or where there are none the unassigned ones of the others
pub record AreListedFirst (scores : List ℕ) (values : List (Option Bool)) (first end : ℕ) (s : Scores) : Type 0 where
  pub part : (AreListed scores values 1 first s.open.items s.listed.items × (0 < length s.listed.items))
      ⊎ (AreListed scores values 1 first [] [] × AreListed scores values first end s.open.items s.listed.items)
