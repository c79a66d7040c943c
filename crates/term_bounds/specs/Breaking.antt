-- Bounds that cannot hold any more, and why.
use Rattle.std.specs.Prelude.{◌≡◌, ℕ, ◌<◌, Bool, true, Option, Some, List, length, slice_get, All, Any, ◌⊎◌}
use Rattle.kb_logic.specs.Denotations.{Denotation}
use Rattle.lit_core.specs.declared.literals.Lit.{Lit}
use Rattle.lit_core.specs.Literals.{literal_value}
use Rattle.lit_core.specs.Truth.{IsSatisfied, IsFalsified}
use Rattle.ground_core.specs.declared.parts.GroundTerm.{GroundTerm}
use Rattle.ground_core.specs.declared.parts.Part.{Part}
use Rattle.ground_core.specs.declared.parts.TermBound.{TermBound}
use Rattle.ground_core.specs.Meaning.{BoundHolds, term_value}
use Rattle.term_bounds.specs.Amounts.{is_under}

-- where the bound's output is true, this term is below its number
abbrev pub Holds : (ℕ → Bool) → GroundTerm → TermBound → Type 0
Holds v t b = literal_value v b.out ≡ true → is_under b.below (term_value v t) ≡ true

-- both bounds are on one term, and all that is below the number of the second is below that of the first
abbrev pub IsNoTighter : TermBound → TermBound → Type 0
IsNoTighter b tight = (tight.term ≡ b.term) × ((d : Denotation) → is_under tight.below d ≡ true
    → is_under b.below d ≡ true)

-- what holds of the literal of each part holds of each term, and of each bound what holds of its output
abbrev pub HasLits : (Lit → Type 0) → List GroundTerm → List TermBound → Type 0
HasLits P terms bounds = All (λ (t : GroundTerm). All (λ (u : Part). P u.lit) t.parts) terms
    × All (λ (b : TermBound). P b.out) bounds

-- each bound is on one of the terms
abbrev pub AreOnTerms : List GroundTerm → List TermBound → Type 0
AreOnTerms terms bounds = All (λ (b : TermBound). b.term < length terms) bounds

-- a bound's output or the literal of a term's part has the literal's variable
abbrev pub IsOfBounds : List GroundTerm → List TermBound → Lit → Type 0
IsOfBounds terms bounds l = Any (λ (b : TermBound). b.out.var.0 ≡ l.var.0) bounds
    ⊎ Any (λ (t : GroundTerm). Any (λ (u : Part). u.lit.var.0 ≡ l.var.0) t.parts) terms

-- the clause is false now, and holds in every valuation that satisfies a certain one of the bounds
pub record IsBrokenBy (terms : List GroundTerm) (bounds : List TermBound) (a : List (Option Bool))
    (c : List Lit) : Type 0 where
  pub falsified : IsFalsified a c
  pub implied : Any (λ b. (v : ℕ → Bool) → BoundHolds v terms b → IsSatisfied v c) bounds
  pub within : All (IsOfBounds terms bounds) c

-- the same, by the bound at this place
pub record IsBrokenAt (terms : List GroundTerm) (bounds : List TermBound) (a : List (Option Bool)) (place : ℕ)
    (c : List Lit) : Type 0 where
  pub falsified : IsFalsified a c
  pub bound : TermBound
  pub there : slice_get bounds place ≡ Some bound
  pub implied : (v : ℕ → Bool) → BoundHolds v terms bound → IsSatisfied v c
  pub within : All (IsOfBounds terms bounds) c

-- the same of one bound on one term
pub record IsBroken (t : GroundTerm) (b : TermBound) (a : List (Option Bool)) (c : List Lit) : Type 0 where
  pub falsified : IsFalsified a c
  pub implied : (v : ℕ → Bool) → Holds v t b → IsSatisfied v c
  pub within : All (λ (l : Lit). (b.out.var.0 ≡ l.var.0) ⊎ Any (λ (u : Part). u.lit.var.0 ≡ l.var.0) t.parts) c
